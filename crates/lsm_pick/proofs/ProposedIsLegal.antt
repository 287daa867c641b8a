-- What a candidate proposes may be merged.
use Rattle.std.proofs.Common.{◌≡◌, ℕ, ◌+◌, ◌<◌, Bool, true, false, List, ◌⊎◌, inl, inr, refl, sym, ap, ◌∙◌, subst, eqb}
use Rattle.std.specs.List.{filter, list_any}
use Rattle.std.proofs.lemmas.Bool.{and_parts, eq-eqb, eqb-true, or_left, or_right}
use Rattle.lsm_key.specs.Sets.{IsIn}
use Rattle.lsm_key.specs.Order.{key_le}
use Rattle.lsm_key.proofs.Lists.{IsIn-kept, any_from, any_is}
use Rattle.lsm_key.proofs.Membership.{IsIn-map, IsIn-mapped}
use Rattle.lsm_key.proofs.AscendingEntries.{IsIn-filter}
use Rattle.lsm_claim.specs.declared.job.Want.{Want}
use Rattle.lsm_claim.specs.Levels.{uses_level}
use Rattle.lsm_edit.specs.declared.file.FileMeta.{FileMeta}
use Rattle.lsm_msg.specs.Legal.{IsLegal, Takes, touches}
use Rattle.lsm_pick.specs.Closure.{Candidate, HasNewer, IsClosed, Joins, MeetsHull}
use Rattle.lsm_pick.specs.Rule.{Proposes, inputs_of}

-- the inputs are what the want takes of the files
module _ (files : List FileMeta) (want : Want) where
  pub input_taken : (f : FileMeta) → IsIn f (inputs_of files want) → Takes files want f
  input_taken f m =
      let r = IsIn-filter (λ g. list_any (eqb g.number) want.files) f files m in
      let n = any_is (eqb f.number) want.files r.1 in
      (r.0, subst (λ (k : ℕ). IsIn k want.files) (sym (eqb-true f.number n.0 n.2)) n.1)

  pub taken_input : (f : FileMeta) → Takes files want f → IsIn f (inputs_of files want)
  taken_input f t = IsIn-kept (λ g. list_any (eqb g.number) want.files) f files t.0 (any_from (eqb f.number) want.files f.number t.1 (eq-eqb f.number f.number refl))

module _ (files : List FileMeta) (t : Candidate) (want : Want) (a : Proposes files t want) where
  number_in : (f : FileMeta) → IsIn f (inputs_of files want) → IsIn f.number want.files
  number_in f m = subst (IsIn f.number) (sym a.files_are) (IsIn-map (λ (g : FileMeta). g.number) f (inputs_of files want) m)

  -- the levels of a closure are two: the others could be left out
  abbrev kept_levels : List FileMeta
  kept_levels = filter (λ f. uses_level want.level f.level) (inputs_of files want)

  level_uses : (f : FileMeta) → ((f.level ≡ t.first.level + 1) ⊎ (f.level ≡ t.first.level)) → uses_level want.level f.level ≡ true
  level_uses f h = elim h [
    | inl next ↦ or_right (eqb f.level want.level) (eqb f.level (want.level + 1)) (eq-eqb f.level (want.level + 1) (next ∙ ap (λ (n : ℕ). n + 1) (sym a.level)))
    | inr own ↦ or_left (eqb f.level want.level) (eqb f.level (want.level + 1)) (eq-eqb f.level want.level (own ∙ sym a.level))
  ]

  meets_kept : (g : FileMeta) → MeetsHull kept_levels g → MeetsHull (inputs_of files want) g
  meets_kept g h =
      let x = h.0 in
      let y = h.1 in
      ((x.0, (IsIn-filter (λ f. uses_level want.level f.level) x.0 (inputs_of files want) x.1).0, x.2), (y.0, (IsIn-filter (λ f. uses_level want.level f.level) y.0 (inputs_of files want) y.1).0, y.2))

  joins_kept : (g : FileMeta) → Joins t kept_levels g → Joins t (inputs_of files want) g
  joins_kept g j = (
    meets_kept g j.0,
    elim j.1 [
      | inl next ↦ inl next
      | inr zero ↦ inr (
        zero.0,
        zero.1,
        elim zero.2 [
          | inl wide ↦ inl wide
          | inr newer ↦ inr (newer.0, (IsIn-filter (λ f. uses_level want.level f.level) newer.0 (inputs_of files want) newer.1).0, newer.2, newer.3)
        ],
      )
    ],
  )

  kept_closed : IsClosed files t kept_levels
  kept_closed g m j =
      IsIn-kept (λ f. uses_level want.level f.level) g (inputs_of files want) ((a.closure).closed g m (joins_kept g j))
      (level_uses g (elim j.1 [ inl next ↦ inl next | inr zero ↦ inr (zero.1 ∙ sym zero.0) ]))

  levels_are : (f : FileMeta) → IsIn f (inputs_of files want) → uses_level want.level f.level ≡ true
  levels_are f m =
      let first : IsIn t.first kept_levels = IsIn-kept (λ g. uses_level want.level g.level) t.first (inputs_of files want) (a.closure).has (level_uses t.first (inr refl)) in
      (IsIn-filter (λ g. uses_level want.level g.level) f (inputs_of files want) ((a.closure).least kept_levels first kept_closed f m)).1

  -- a file that touches the hull meets the set
  touched : (g : FileMeta) → touches want.hull g ≡ true → MeetsHull (inputs_of files want) g
  touched g h =
      let parts = and_parts (key_le want.hull.lo g.largest) (key_le g.smallest want.hull.hi) h in
      let x = a.least in
      let y = a.greatest in
      ((x.0, x.1, subst (λ (k : List ℕ). key_le k g.largest ≡ true) (sym x.2) parts.0), (y.0, y.1, subst (λ (k : List ℕ). key_le g.smallest k ≡ true) (sym y.2) parts.1))

  older_by : (b : Bool) → t.older_only ≡ b → (f g : FileMeta) → IsIn g (inputs_of files want) → g.level ≡ 0 → f.number < g.number → (t.older_only ≡ false) ⊎ HasNewer (inputs_of files want) f
  older_by false e f g m level lt = inl e
  older_by true e f g m level lt = inr (g, m, level, lt)

  pub legal : IsLegal files want
  legal = record {
    known = λ n m.
        let f = IsIn-mapped (λ (g : FileMeta). g.number) n (inputs_of files want) (subst (IsIn n) a.files_are m) in
        (f.0, (input_taken files want f.0 f.1).0, sym f.2);
    own = (t.first, input_taken files want t.first (a.closure).has, sym a.level);
    levels = λ f m. levels_are f (taken_input files want f m);
    inside = λ f m. a.inside f (taken_input files want f m);
    least = let f = a.least in (f.0, input_taken files want f.0 f.1, f.2);
    greatest = let f = a.greatest in (f.0, input_taken files want f.0 f.1, f.2);
    next = λ f m level met. number_in f ((a.closure).closed f m (touched f met, inl (level ∙ ap (λ (n : ℕ). n + 1) a.level)));
    older = λ f g m n zero level other met lt.
        number_in f ((a.closure).closed f m (touched f met, inr (sym a.level ∙ zero, level, older_by t.older_only refl f g (taken_input files want g n) other lt)));
  }
