-- Trials begin with files of levels that have a next one.
use Rattle.std.proofs.Common.{◌≡◌, ℕ, ◌≤◌, Bool, true, false, cond, List, [], ◌∷◌, inl, inr, refl, sym, ap, subst, ◌∙◌, arith, eqb}
use Rattle.std.specs.List.{filter, flat_map}
use Rattle.std.proofs.lemmas.Bool.{eqb-true}
use Rattle.lsm_key.specs.Sets.{IsIn}
use Rattle.lsm_key.specs.declared.limits.Limits.{Limits}
use Rattle.lsm_key.proofs.AscendingEntries.{IsIn-filter}
use Rattle.lsm_key.proofs.Membership.{IsIn-append_cases, IsIn-append_right}
use Rattle.lsm_claim.specs.declared.job.LiveJob.{LiveJob}
use Rattle.lsm_claim.specs.declared.job.Want.{Want}
use Rattle.lsm_edit.specs.declared.file.FileMeta.{FileMeta}
use Rattle.lsm_key.specs.declared.limits.TheConstants.{MAX_JOB_LEVEL}
use Rattle.lsm_pick.specs.Closure.{Candidate}
use Rattle.lsm_pick.specs.Due.{is_due, levels, of_level}
use Rattle.lsm_pick.specs.Rule.{IsFirst, level_candidates, candidates, file_candidates}

-- an element that makes it
pub in_part : {X Y : Type 0} (f : X → List Y) (xs : List X) (y : Y) → IsIn y (flat_map f xs) → (x : X) × IsIn x xs × IsIn y (f x)
in_part f [] y m = absurd m
in_part f (x ∷ xs) y m = elim (IsIn-append_cases y (f x) (flat_map f xs) m) [
  | inl a ↦ (x, inl refl, a)
  | inr b ↦ let r = in_part f xs y b in (r.0, inr r.1, r.2)
]

first_by : (f : FileMeta) (t : Candidate) (b : Bool) → IsIn t (cond b (record { first = f; older_only = false } ∷ record { first = f; older_only = true } ∷ []) (record { first = f; older_only = false } ∷ [])) → t.first ≡ f
first_by f t true m = elim m [
  | inl e ↦ ap (λ (u : Candidate). u.first) e
  | inr n ↦ elim n [ inl e ↦ ap (λ (u : Candidate). u.first) e | inr none ↦ absurd none ]
]
first_by f t false m = elim m [ inl e ↦ ap (λ (u : Candidate). u.first) e | inr none ↦ absurd none ]

low : (n : ℕ) → IsIn n levels → n ≤ MAX_JOB_LEVEL
low n m = elim m [
  | inl e ↦ omega (arith, e)
  | inr a ↦ elim a [
    | inl e ↦ omega (arith, e)
    | inr b ↦ elim b [
      | inl e ↦ omega (arith, e)
      | inr d ↦ elim d [
        | inl e ↦ omega (arith, e)
        | inr f ↦ elim f [
          | inl e ↦ omega (arith, e)
          | inr g ↦ elim g [ inl e ↦ omega (arith, e) | inr none ↦ absurd none ]
        ]
      ]
    ]
  ]
]

candidate_level : (limits : Limits) (files : List FileMeta) (t : Candidate) → IsIn t (candidates limits files) → t.first.level ≤ MAX_JOB_LEVEL
candidate_level limits files t m =
    let at = in_part (level_candidates files) (filter (is_due limits files) levels) t m in
    let due = IsIn-filter (is_due limits files) at.0 levels at.1 in
    let file = in_part file_candidates (of_level at.0 files) t at.2 in
    let own = IsIn-filter (λ (f : FileMeta). eqb f.level at.0) file.0 files file.1 in
    let is = ap (λ (f : FileMeta). f.level) (first_by file.0 t (eqb file.0.level 0) file.2) ∙ eqb-true file.0.level at.0 own.1 in
    let le = low at.0 due.0 in
    omega (arith, is, le)

-- a candidate begins with one of the files
pub candidate_listed : (limits : Limits) (files : List FileMeta) (t : Candidate) → IsIn t (candidates limits files) → IsIn t.first files
candidate_listed limits files t m =
    let at = in_part (level_candidates files) (filter (is_due limits files) levels) t m in
    let file = in_part file_candidates (of_level at.0 files) t at.2 in
    subst (λ (f : FileMeta). IsIn f files) (sym (first_by file.0 t (eqb file.0.level 0) file.2)) (IsIn-filter (λ (f : FileMeta). eqb f.level at.0) file.0 files file.1).0

-- what is picked among candidates, in whatever order, is of such a level
pub picked_level : (limits : Limits) (files : List FileMeta) (live : List LiveJob) (ts : List Candidate) → ((t : Candidate) → IsIn t ts → IsIn t (candidates limits files)) → (want : Want) → IsFirst files live ts want → want.level ≤ MAX_JOB_LEVEL
picked_level limits files live ts within want first =
    let here : IsIn first.candidate ts = subst (IsIn first.candidate) (sym first.order) (IsIn-append_right first.candidate first.before (first.candidate ∷ first.after) (inl refl)) in
    let le = candidate_level limits files first.candidate (within first.candidate here) in
    omega (arith, ((first.taken).asks).level, le)
