-- The recent edits of a version set: read by number, after one edit more, and after the floor rose.
use Rattle.std.proofs.Common.{◌≡◌, ℕ, ◌+◌, ◌-◌, ◌<◌, ◌≤◌, List, [], ◌∷◌, ◌++◌, Some, drop, get_or, length, sym, ap, subst, ◌∙◌, arith, length-drop}
use Rattle.std.specs.List.{slice_get}
use Rattle.std.proofs.lemmas.List.{drop-append-le, drop-drop, get_or-drop}
use Rattle.std.proofs.lemmas.Option.{slice_get-get_or}
use Rattle.lsm_key.proofs.Membership.{IsIn-at}
use Rattle.lsm_key.specs.Sets.{IsIn}
use Rattle.lsm_edit.specs.declared.edit.Edit.{Edit}
use Rattle.lsm_edit.specs.Edit.{IsSpelledEdit}
use Rattle.lsm_edit.specs.Version.{VersionValue}
use Rattle.lsm_versions.specs.Manifest.{Folds, edits_from}
use Rattle.lsm_versions.proofs.EditsInTurn.{length-texts}

module _ (texts : List (List ℕ)) (v : VersionValue) (floor : ℕ) (recent : List (List ℕ)) (folds : Folds texts v) (are : recent ≡ edits_from floor texts) where
  long : length recent ≡ v.number - (floor - 1)
  long = ap length are ∙ length-drop (floor - 1) texts ∙ ap (λ (n : ℕ). n - (floor - 1)) (length-texts texts v folds)

  -- ---- the edit after a version

  pub stands : (n : ℕ) → floor ≤ n + 1 → n < v.number → n - (floor - 1) < length recent
  stands n from below = omega (arith, long)

  module _ (n : ℕ) (from : floor ≤ n + 1) (below : n < v.number) (text : List ℕ) (at : text ≡ get_or recent (n - (floor - 1)) text) where
    same : text ≡ get_or texts n text
    same =
        let place : floor - 1 + (n - (floor - 1)) ≡ n = omega arith in
        at ∙ ap (λ (ts : List (List ℕ)). get_or ts (n - (floor - 1)) text) are ∙ get_or-drop (floor - 1) texts (n - (floor - 1)) text ∙ ap (λ (k : ℕ). get_or texts k text) place

    within : n < length texts
    within = let count = length-texts texts v folds in omega (arith, count)

    pub text_at : slice_get texts n ≡ Some text
    text_at = slice_get-get_or texts n text within ∙ ap Some (sym same)

    pub spells : (e : Edit) × IsSpelledEdit text e
    spells = folds.spelled text (subst (λ (t : List ℕ). IsIn t texts) (sym same) (IsIn-at texts n text within))

  -- ---- one edit more

  pub pushed : (text : List ℕ) → floor ≤ v.number → recent ++ text ∷ [] ≡ edits_from floor (texts ++ text ∷ [])
  pushed text low =
      let count = length-texts texts v folds in
      ap (λ (ts : List (List ℕ)). ts ++ text ∷ []) are ∙ sym (drop-append-le (floor - 1) texts (text ∷ []) (omega (arith, count)))

  -- ---- a higher floor

  pub has_below : (higher : ℕ) → higher ≤ v.number → higher - 1 ≤ floor - 1 + length recent
  has_below higher low = omega (arith, long)

  pub raised : (higher : ℕ) → floor ≤ higher → drop ((higher - 1) - (floor - 1)) recent ≡ edits_from higher texts
  raised higher up =
      let all : floor - 1 + ((higher - 1) - (floor - 1)) ≡ higher - 1 = omega arith in
      ap (drop ((higher - 1) - (floor - 1))) are ∙ drop-drop _ _ texts ∙ ap (λ (k : ℕ). drop k texts) all
