-- Outcomes of candidates, one after another.
use Rattle.std.proofs.Common.{◌≡◌, ℕ, zero, suc, ◌+◌, ◌<◌, ◌≤◌, Bool, true, false, List, [], ◌∷◌, ◌++◌, inl, inr, refl, sym, ap, ◌∙◌, subst, arith, length, get_or, take, drop, Result, Ok, Err}
use Rattle.std.specs.List.{filter, flat_map}
use Rattle.std.specs.Result.{IfErr, OnErr}
use Rattle.std.proofs.lemmas.List.{append-nil, append_assoc, take_all}
use Rattle.std.proofs.lemmas.Grind.{flat_map-append}
use Rattle.lsm_key.specs.Sets.{IsIn}
use Rattle.lsm_key.proofs.Membership.{IsIn-append_cases, IsIn-append_left, IsIn-append_right}
use Rattle.lsm_claim.specs.declared.job.LiveJob.{LiveJob}
use Rattle.lsm_claim.specs.declared.job.Want.{Want}
use Rattle.lsm_edit.specs.declared.file.FileMeta.{FileMeta}
use Rattle.lsm_pick.specs.declared.outcome.Outcome.{Outcome}
use Rattle.lsm_pick.specs.declared.outcome.Outcome.TheVariants as outcome
use Rattle.lsm_pick.specs.Closure.{Candidate}
use Rattle.lsm_pick.specs.Due.{levels}
use Rattle.lsm_pick.specs.Rule.{IsBlocked, IsFirst, IsSkipped, IsEligible}
use Rattle.lsm_pick.specs.Outcome.{HasOutcome, CanPick, is_some_picked, or_later}
use Rattle.lsm_pick.proofs.CountedInLists.{passed, skipped, parted}

module _ (files : List FileMeta) (live : List LiveJob) where
  -- ---- the first one

  pub first_more : (ts us : List Candidate) (want : Want) → IsFirst files live ts want → IsFirst files live (ts ++ us) want
  first_more ts us want f = record {
    before = f.before;
    candidate = f.candidate;
    after = f.after ++ us;
    order = ap (λ (xs : List Candidate). xs ++ us) f.order ∙ append_assoc f.before (f.candidate ∷ f.after) us;
    skipped = f.skipped;
    taken = f.taken;
  }

  pub first_later : (ts us : List Candidate) (want : Want) → ((t : Candidate) → IsIn t ts → IsSkipped files live t) → IsFirst files live us want → IsFirst files live (ts ++ us) want
  first_later ts us want none f = record {
    before = ts ++ f.before;
    candidate = f.candidate;
    after = f.after;
    order = ap (λ (xs : List Candidate). ts ++ xs) f.order ∙ sym (append_assoc ts f.before (f.candidate ∷ f.after));
    skipped = λ t m. elim (IsIn-append_cases t ts f.before m) [ inl a ↦ none t a | inr b ↦ f.skipped t b ];
    taken = f.taken;
  }

  pub first_alone : (t : Candidate) (want : Want) → IsEligible files live t want → IsFirst files live (t ∷ []) want
  first_alone t want taken = record { before = []; candidate = t; after = []; order = refl; skipped = λ u m. absurd m; taken = taken }

  -- ---- trials after others

  both : (P : Candidate → Type 0) (ts us : List Candidate) → ((t : Candidate) → IsIn t ts → P t) → ((t : Candidate) → IsIn t us → P t) → (t : Candidate) → IsIn t (ts ++ us) → P t
  both P ts us one two t m = elim (IsIn-append_cases t ts us m) [ inl a ↦ one t a | inr b ↦ two t b ]

  pub outcome_or : (ts us : List Candidate) (a b : Outcome) → HasOutcome files live ts a → HasOutcome files live us b → HasOutcome files live (ts ++ us) (or_later a b)
  outcome_or ts us (outcome.Picked want) b one two = first_more ts us want one
  outcome_or ts us outcome.TooLarge (outcome.Picked want) one two = first_later ts us want one.0 two
  outcome_or ts us outcome.TooLarge outcome.TooLarge one two =
      (both (IsSkipped files live) ts us one.0 two.0, ((one.1).0, IsIn-append_left (one.1).0 ts us (one.1).1, (one.1).2))
  outcome_or ts us outcome.TooLarge outcome.Blocked one two =
      (both (IsSkipped files live) ts us one.0 (λ t m. inl (two t m)), ((one.1).0, IsIn-append_left (one.1).0 ts us (one.1).1, (one.1).2))
  outcome_or ts us outcome.Blocked (outcome.Picked want) one two = first_later ts us want (λ t m. inl (one t m)) two
  outcome_or ts us outcome.Blocked outcome.TooLarge one two =
      (both (IsSkipped files live) ts us (λ t m. inl (one t m)) two.0, ((two.1).0, IsIn-append_right (two.1).0 ts us (two.1).1, (two.1).2))
  outcome_or ts us outcome.Blocked outcome.Blocked one two = both (IsBlocked files live) ts us one two

  pub can_pick_more : (ts us : List Candidate) → CanPick files live ts → CanPick files live (ts ++ us)
  can_pick_more ts us w = (w.0, first_more ts us w.0 w.1)

  pub can_pick_later : (ts us : List Candidate) (a : Outcome) → HasOutcome files live ts a → CanPick files live us → CanPick files live (ts ++ us)
  can_pick_later ts us (outcome.Picked want) one w = (want, first_more ts us want one)
  can_pick_later ts us outcome.TooLarge one w = (w.0, first_later ts us w.0 one.0 w.1)
  can_pick_later ts us outcome.Blocked one w = (w.0, first_later ts us w.0 (λ t m. inl (one t m)) w.1)

  -- where one is taken, those after it change nothing
  pub outcome_picked : (ts us : List Candidate) (a : Outcome) → is_some_picked a ≡ true → HasOutcome files live ts a → HasOutcome files live (ts ++ us) a
  outcome_picked ts us (outcome.Picked want) e one = first_more ts us want one
  outcome_picked ts us outcome.TooLarge e one = absurd cc
  outcome_picked ts us outcome.Blocked e one = absurd cc

  -- ---- trials of the elements of a list that pass a test

  module _ {X : Type 0} (test : X → Bool) (candidates_at : X → List Candidate) (xs : List X) (i : ℕ) where
    abbrev pub so_far : ℕ → List Candidate
    so_far n = flat_map candidates_at (filter test (take n xs))

    pub all_parted : flat_map candidates_at (filter test xs) ≡ so_far i ++ flat_map candidates_at (filter test (drop i xs))
    all_parted = ap (flat_map candidates_at) (parted test xs i) ∙ flat_map-append candidates_at (filter test (take i xs)) (filter test (drop i xs))

    module _ (x : X) (lt : i < length xs) (is : x ≡ get_or xs i x) where
      pub next_is : test x ≡ true → so_far (i + 1) ≡ so_far i ++ candidates_at x
      next_is e =
          ap (flat_map candidates_at) (passed test xs i x lt is e)
          ∙ flat_map-append candidates_at (filter test (take i xs)) (x ∷ [])
          ∙ ap (λ (ts : List Candidate). so_far i ++ ts) (append-nil (candidates_at x))

      pub next_same : test x ≡ false → so_far (i + 1) ≡ so_far i
      next_same e = ap (flat_map candidates_at) (skipped test xs i x lt is e)

      pub next_or : (a b : Outcome) → test x ≡ true → HasOutcome files live (so_far i) a → HasOutcome files live (candidates_at x) b → HasOutcome files live (so_far (i + 1)) (or_later a b)
      next_or a b e one two = subst (λ (ts : List Candidate). HasOutcome files live ts (or_later a b)) (sym (next_is e)) (outcome_or (so_far i) (candidates_at x) a b one two)

      pub next_can_pick : (a : Outcome) → test x ≡ true → HasOutcome files live (so_far i) a → CanPick files live (candidates_at x) → CanPick files live (flat_map candidates_at (filter test xs))
      next_can_pick a e one w =
          let here = subst (CanPick files live) (sym (next_is e)) (can_pick_later (so_far i) (candidates_at x) a one w) in
          subst (CanPick files live) (sym whole) (can_pick_more (so_far (i + 1)) (flat_map candidates_at (filter test (drop (i + 1) xs))) here)
        where
          whole : flat_map candidates_at (filter test xs) ≡ so_far (i + 1) ++ flat_map candidates_at (filter test (drop (i + 1) xs))
          whole = ap (flat_map candidates_at) (parted test xs (i + 1)) ∙ flat_map-append candidates_at (filter test (take (i + 1) xs)) (filter test (drop (i + 1) xs))

    pub taken_whole : (a : Outcome) → is_some_picked a ≡ true → HasOutcome files live (so_far i) a → HasOutcome files live (flat_map candidates_at (filter test xs)) a
    taken_whole a e one = subst (λ (ts : List Candidate). HasOutcome files live ts a) (sym all_parted) (outcome_picked (so_far i) (flat_map candidates_at (filter test (drop i xs))) a e one)

    pub all_outcomes : (a : Outcome) → length xs ≤ i → HasOutcome files live (so_far i) a → HasOutcome files live (flat_map candidates_at (filter test xs)) a
    all_outcomes a le one = subst (λ (ys : List X). HasOutcome files live (flat_map candidates_at (filter test ys)) a) (take_all i xs le) one

-- what holds anyway holds of an error
pub told : {T E P : Type 0} (r : Result T E) → P → OnErr r P
told (Ok x) p = tt
told (Err e) p = p

-- the levels that a job may have
pub level_at : (n : ℕ) → n < 6 → get_or levels n n ≡ n
level_at zero lt = refl
level_at (suc zero) lt = refl
level_at (suc (suc zero)) lt = refl
level_at (suc (suc (suc zero))) lt = refl
level_at (suc (suc (suc (suc zero)))) lt = refl
level_at (suc (suc (suc (suc (suc zero))))) lt = refl
level_at (suc (suc (suc (suc (suc (suc n)))))) lt = absurd (omega (arith, lt))

pub told_each : {T E : Type 0} (P : E → Type 0) (r : Result T E) → ((e : E) → P e) → IfErr r P
told_each P (Ok x) p = tt
told_each P (Err e) p = p e
