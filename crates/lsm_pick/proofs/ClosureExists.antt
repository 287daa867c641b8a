-- Each candidate proposes a compaction: its closure's reach grows by files that are outside, until none is left to join.
use Rattle.std.proofs.Common.{◌≡◌, ℕ, zero, suc, ◌<◌, ◌≤◌, Bool, true, false, not, ◌&&◌, List, [], ◌∷◌, ◌⊎◌, inl, inr, refl, sym, ap, ◌∙◌, subst, arith}
use Rattle.std.proofs.lemmas.Bool.{true≢false, not-true, and_parts, and_from}
use Rattle.lsm_key.specs.Sets.{IsIn}
use Rattle.lsm_key.specs.KeyRanges.{higher, lower}
use Rattle.lsm_claim.specs.declared.job.LiveJob.{LiveJob}
use Rattle.lsm_claim.specs.declared.job.Want.{Want}
use Rattle.lsm_edit.specs.declared.file.FileMeta.{FileMeta}
use Rattle.lsm_edit.specs.File.{IsFile}
use Rattle.lsm_edit.specs.Version.{FileNumbersRise}
use Rattle.lsm_pick.specs.Closure.{Candidate}
use Rattle.lsm_pick.specs.Reach.{IsFull, IsReach, is_inside, is_met, may_join}
use Rattle.lsm_pick.specs.Rule.{IsEligible, IsSkipped, Proposes, fits_limits, is_free}
use Rattle.lsm_pick.proofs.ClosureEnds.{fewer_outside, outside}
use Rattle.lsm_pick.proofs.ProposedWant.{asks, ghost_want}
use Rattle.lsm_pick.proofs.ReachGrows.{higher_high, higher_key, inside_from, lower_key, lower_low, reach_first, reach_more}

-- ---- one that passes a test, or none

module _ {X : Type 0} (p : X → Bool) where
  pub one_or_none : (xs : List X) → ((x : X) × IsIn x xs × (p x ≡ true)) ⊎ ((x : X) → IsIn x xs → p x ≡ false)
  one_or_none [] = inr (λ x m. absurd m)
  one_or_none (x ∷ xs) = here (p x) refl (one_or_none xs)
    where
      here : (b : Bool) → p x ≡ b → (((y : X) × IsIn y xs × (p y ≡ true)) ⊎ ((y : X) → IsIn y xs → p y ≡ false)) → ((y : X) × IsIn y (x ∷ xs) × (p y ≡ true)) ⊎ ((y : X) → IsIn y (x ∷ xs) → p y ≡ false)
      here true e later = inl (x, inl refl, e)
      here false e later = elim later [
        | inl a ↦ inl (a.0, inr a.1, a.2)
        | inr none ↦ inr (λ y m. elim m [ inl same ↦ ap p same ∙ e | inr n ↦ none y n ])
      ]

-- ---- the closure

module _ (files : List FileMeta) (t : Candidate) where
  -- joins, and has keys outside
  abbrev is_left : List ℕ → List ℕ → FileMeta → Bool
  is_left lo hi f = (may_join t f && is_met lo hi f) && not (is_inside lo hi f)

  inside_by : (lo hi : List ℕ) (f : FileMeta) → is_left lo hi f ≡ false → may_join t f ≡ true → is_met lo hi f ≡ true → (b : Bool) → is_inside lo hi f ≡ b → is_inside lo hi f ≡ true
  inside_by lo hi f none j met true e = e
  inside_by lo hi f none j met false e =
      absurd (true≢false (sym (and_from (may_join t f && is_met lo hi f) (not (is_inside lo hi f)) (and_from (may_join t f) (is_met lo hi f) j met) (ap not e)) ∙ none))

  module _ (lo hi : List ℕ) (r : IsReach files t lo hi) where
    full_here : ((f : FileMeta) → IsIn f files → is_left lo hi f ≡ false) → IsFull files t lo hi
    full_here none = record { reach = r; full = λ f m j met. inside_by lo hi f (none f m) j met (is_inside lo hi f) refl }

    module _ (g : FileMeta) (m : IsIn g files) (left : is_left lo hi g ≡ true) where
      wider : IsReach files t (lower lo g.smallest) (higher hi g.largest)
      wider =
          let joins = and_parts (may_join t g) (is_met lo hi g) (and_parts (may_join t g && is_met lo hi g) (not (is_inside lo hi g)) left).0 in
          reach_more files t lo hi g r m joins.0 joins.1

      fewer_now : outside (lower lo g.smallest) (higher hi g.largest) files < outside lo hi files
      fewer_now = fewer_outside files t lo hi (lower lo g.smallest) (higher hi g.largest) wider (lower_low lo g.smallest) (higher_high hi g.largest) (λ same.
          let now = inside_from (lower lo g.smallest) (higher hi g.largest) g (lower_key lo g.smallest) (higher_key hi g.largest) in
          let before = subst (λ (k : List ℕ). is_inside lo k g ≡ true) same.1 (subst (λ (k : List ℕ). is_inside k (higher hi g.largest) g ≡ true) same.0 now) in
          true≢false (sym before ∙ not-true (is_inside lo hi g) (and_parts (may_join t g && is_met lo hi g) (not (is_inside lo hi g)) left).1))

  pub full_within : (n : ℕ) (lo hi : List ℕ) → IsReach files t lo hi → outside lo hi files ≤ n → (new_lo : List ℕ) × (new_hi : List ℕ) × IsFull files t new_lo new_hi
  full_within zero lo hi r le = elim (one_or_none (is_left lo hi) files) [
    | inl g ↦ let less = fewer_now lo hi r g.0 g.1 g.2 in absurd (omega (arith, less, le))
    | inr none ↦ (lo, hi, full_here lo hi r none)
  ]
  full_within (suc n) lo hi r le = elim (one_or_none (is_left lo hi) files) [
    | inl g ↦
        let less = fewer_now lo hi r g.0 g.1 g.2 in
        full_within n (lower lo (g.0).smallest) (higher hi (g.0).largest) (wider lo hi r g.0 g.1 g.2) (omega (arith, less, le))
    | inr none ↦ (lo, hi, full_here lo hi r none)
  ]

-- ---- its compaction

module _ (files : List FileMeta) (rise : FileNumbersRise files) (each : (f : FileMeta) → IsIn f files → IsFile f) (t : Candidate) (listed : IsIn t.first files) where
  pub proposed : (want : Want) × Proposes files t want
  proposed =
      let full = full_within files t (outside t.first.smallest t.first.largest files) t.first.smallest t.first.largest (reach_first files t listed) (omega arith) in
      let w = ghost_want files rise each t listed full.0 full.1 full.2 in
      (w, asks files rise each t listed full.0 full.1 full.2 w refl refl refl refl)

  -- it is eligible, or skipped
  pub tried : (live : List LiveJob) → ((want : Want) × IsEligible files live t want) ⊎ IsSkipped files live t
  tried live = by (is_free live proposed.0) (fits_limits files proposed.0) refl refl
    where
      by : (a b : Bool) → is_free live proposed.0 ≡ a → fits_limits files proposed.0 ≡ b → ((want : Want) × IsEligible files live t want) ⊎ IsSkipped files live t
      by false b free within = inr (inl (proposed.0, proposed.1, free))
      by true false free within = inr (inr (proposed.0, proposed.1, free, within))
      by true true free within = inl (proposed.0, record { asks = proposed.1; free = free; within = within })
