-- Inputs that are read in turn are those of a job.
use Rattle.std.proofs.Common.{◌≡◌, ℕ, zero, suc, ◌+◌, ◌<◌, ◌≤◌, ◌||◌, ◌&&◌, Bool, true, false, not, cond, eqb, List, [], ◌∷◌, length, get_or, refl, sym, ap, subst, ◌∙◌, arith, inl, inr}
use Rattle.std.specs.Prelude.{nat_eq}
use Rattle.std.specs.List.{All, AllPairs, Any}
use Rattle.std.proofs.lemmas.Bool.{and_parts, not-true, cases_Bool, eq-eqb, eqb-true, eqb-false, or_parts, or_from}
use Rattle.lsm_key.specs.declared.limits.TheConstants.{MAX_INPUTS}
use Rattle.lsm_claim.specs.Levels.{uses_level}
use Rattle.lsm_edit.specs.declared.file.FileMeta.{FileMeta}
use Rattle.lsm_edit.proofs.Ascending.{IsFileFrom}
use Rattle.lsm_edit.proofs.ItemsInTurn.{AreInTurn}
use Rattle.lsm_msg.specs.declared.reading.inputs.InputsLeft.{InputsLeft}
use Rattle.lsm_msg.specs.MessageReading.{after_input, input_bounds}
use Rattle.lsm_msg.specs.Rules.{AreInputs, IsInput}

-- each input is one that may follow those before it
abbrev pub AreNextInputs : InputsLeft → List FileMeta → Type 0
AreNextInputs s files = AreInTurn (λ s. IsFileFrom (input_bounds s)) after_input s files

-- an input of the job's level, or of the next one
of_level : (s : InputsLeft) (f : FileMeta) → IsFileFrom (input_bounds s) f → uses_level s.level f.level ≡ true
of_level s f is = elim (cases_Bool (not s.own && eqb s.left 1)) [
  | inl last ↦
      let low = is.3 in
      let high : f.level ≤ s.level = subst (λ (b : Bool). f.level ≤ cond b s.level (s.level + 1)) last is.4 in
      let same : nat_eq f.level s.level ≡ true = eq-eqb f.level s.level (omega (arith, low, high)) in
      ap (λ (b : Bool). b || nat_eq f.level (s.level + 1)) same
  | inr more ↦
      let low = is.3 in
      let high : f.level ≤ s.level + 1 = subst (λ (b : Bool). f.level ≤ cond b s.level (s.level + 1)) more is.4 in
      elim (cases_Bool (nat_eq f.level s.level)) [
        | inl same ↦ ap (λ (b : Bool). b || nat_eq f.level (s.level + 1)) same
        | inr apart ↦
            let other = eqb-false f.level s.level apart in
            let next : nat_eq f.level (s.level + 1) ≡ true = eq-eqb f.level (s.level + 1) (omega (arith, low, high, other)) in
            ap (λ (b : Bool). b || nat_eq f.level (s.level + 1)) apart ∙ next
      ]
]

pub inputs_each : (s : InputsLeft) (files : List FileMeta) → AreNextInputs s files → All (λ f. IsInput s.level f × (s.least ≤ f.number)) files
inputs_each s [] is k d lt = absurd (omega (arith, lt))
inputs_each s (f ∷ files) is zero d lt = (record { level = of_level s f is.0; file = is.0.0 }, is.0.1)
inputs_each s (f ∷ files) is (suc k) d lt =
    let later = inputs_each (after_input s f) files is.1 k d (omega (arith, lt)) in
    (later.0, (let a = later.1 in let b = is.0.1 in omega (arith, a, b)))

pub inputs_rise : (s : InputsLeft) (files : List FileMeta) → AreNextInputs s files → AllPairs (λ f g. f.number < g.number) files
inputs_rise s [] is i j d lt within = absurd (omega (arith, within))
inputs_rise s (f ∷ files) is i zero d lt within = absurd (omega (arith, lt))
inputs_rise s (f ∷ files) is zero (suc j) d lt within = (let a = (inputs_each (after_input s f) files is.1 j d (omega (arith, within))).1 in omega (arith, a))
inputs_rise s (f ∷ files) is (suc i) (suc j) d lt within = inputs_rise (after_input s f) files is.1 i j d (omega (arith, lt)) (omega (arith, within))

-- the last input is of the job's level if no other is
last_own : (s : InputsLeft) (f : FileMeta) → IsFileFrom (input_bounds s) f → s.left ≡ 1 → s.own ≡ false → f.level ≡ s.level
last_own s f is left own =
    let last : (not s.own && eqb s.left 1) ≡ true = ap (λ (b : Bool). not b && eqb s.left 1) own ∙ eq-eqb s.left 1 left in
    let low = is.3 in
    let high : f.level ≤ s.level = subst (λ (b : Bool). f.level ≤ cond b s.level (s.level + 1)) last is.4 in
    omega (arith, low, high)

pub one_own : (s : InputsLeft) (files : List FileMeta) → AreNextInputs s files → s.left ≡ length files → 1 ≤ length files → s.own ≡ false → Any (λ f. f.level ≡ s.level) files
one_own s [] is left some own = absurd (omega (arith, some))
one_own s (f ∷ []) is left some own = (0, f, omega arith, refl, last_own s f is.0 left own)
one_own s (f ∷ g ∷ files) is left some own = elim (cases_Bool (nat_eq f.level s.level)) [
  | inl same ↦ (0, f, omega arith, refl, eqb-true f.level s.level same)
  | inr apart ↦
      let later = one_own (after_input s f) (g ∷ files) is.1 (omega (arith, left)) (omega arith) (or_from s.own (nat_eq f.level s.level) own apart) in
      let lt = later.2 in (suc later.0, later.1, omega (arith, lt), later.3, later.4)
]

pub inputs_of_turn : (level : ℕ) (files : List FileMeta) → 1 ≤ length files → length files ≤ MAX_INPUTS → AreNextInputs (record { least = 1; level = level; left = length files; own = false }) files → AreInputs level files
inputs_of_turn level files some few is = record {
  few = few;
  each = λ k d lt. (inputs_each (record { least = 1; level = level; left = length files; own = false }) files is k d lt).0;
  rising = inputs_rise (record { least = 1; level = level; left = length files; own = false }) files is;
  own = one_own (record { least = 1; level = level; left = length files; own = false }) files is refl some refl;
}

-- the level of an input
level_near : (upper level : ℕ) → uses_level upper level ≡ true → (upper ≤ level) × (level ≤ upper + 1)
level_near upper level uses = elim (cases_Bool (nat_eq level upper)) [
  | inl same ↦ let e = eqb-true level upper same in (omega (arith, e), omega (arith, e))
  | inr apart ↦ let e = eqb-true level (upper + 1) (sym (ap (λ (b : Bool). b || nat_eq level (upper + 1)) apart) ∙ uses) in (omega (arith, e), omega (arith, e))
]

module _ (Is : FileMeta → Type 0) where
  first_or_later : (f : FileMeta) (files : List FileMeta) → (Is f → ⊥) → Any Is (f ∷ files) → Any Is files
  first_or_later f files not_first any = by any.0 any.1 any.2 any.3 any.4
    where
      by : (k : ℕ) (x : FileMeta) → k < length (f ∷ files) → get_or (f ∷ files) k x ≡ x → Is x → Any Is files
      by zero x lt e is = absurd (not_first (subst Is (sym e) is))
      by (suc k) x lt e is = (k, x, omega (arith, lt), e, is)

pub turn_of_inputs : (s : InputsLeft) (files : List FileMeta) → s.left ≡ length files → All (λ f. IsInput s.level f × (s.least ≤ f.number)) files → AllPairs (λ f g. f.number < g.number) files
    → (s.own ≡ false → 1 ≤ length files → Any (λ f. f.level ≡ s.level) files) → AreNextInputs s files
turn_of_inputs s [] left each rise own = tt
turn_of_inputs s (f ∷ files) left each rise own =
    let is = each zero f (omega arith) in
    let near = level_near s.level f.level is.0.level in (
      (is.0.file, is.1, is.0.file.last, near.0, deep near.1),
      turn_of_inputs (after_input s f) files (omega (arith, left))
          (λ k d lt. ((each (suc k) d (omega (arith, lt))).0, (let up = rise zero (suc k) d (omega arith) (omega (arith, lt)) in omega (arith, up))))
          (λ i j d lt within. rise (suc i) (suc j) d (omega (arith, lt)) (omega (arith, within)))
          (λ none some.
          let parts = or_parts s.own (nat_eq f.level s.level) none in
          first_or_later (λ g. g.level ≡ s.level) f files (λ same. eqb-false f.level s.level parts.1 same) (own parts.0 (omega arith))),
    )
  where
    deep : f.level ≤ s.level + 1 → f.level ≤ cond (not s.own && eqb s.left 1) s.level (s.level + 1)
    deep high = elim (cases_Bool (not s.own && eqb s.left 1)) [
      | inl last ↦ subst (λ (b : Bool). f.level ≤ cond b s.level (s.level + 1)) (sym last) (lowest (cases_last last))
      | inr more ↦ subst (λ (b : Bool). f.level ≤ cond b s.level (s.level + 1)) (sym more) high
    ]
      where
        cases_last : (not s.own && eqb s.left 1) ≡ true → (s.own ≡ false) × (s.left ≡ 1)
        cases_last last = let parts = and_parts (not s.own) (eqb s.left 1) last in (not-true s.own parts.0, eqb-true s.left 1 parts.1)

        lowest : (s.own ≡ false) × (s.left ≡ 1) → f.level ≤ s.level
        lowest known = only files (λ e. known.0) (omega (arith, left, known.1)) (own known.0 (omega arith))
          where
            only : (fs : List FileMeta) → (s.left ≡ 1 → s.own ≡ false) → length fs ≡ 0 → Any (λ g. g.level ≡ s.level) (f ∷ fs) → f.level ≤ s.level
            only [] h none any = first any.0 any.1 any.2 any.3 any.4
              where
                first : (k : ℕ) (x : FileMeta) → k < 1 → get_or (f ∷ []) k x ≡ x → x.level ≡ s.level → f.level ≤ s.level
                first zero x lt e is = (let same = ap (λ (y : FileMeta). y.level) e in omega (arith, same, is))
                first (suc k) x lt e is = absurd (omega (arith, lt))
            only (g ∷ fs) h none any = absurd (omega (arith, none))
