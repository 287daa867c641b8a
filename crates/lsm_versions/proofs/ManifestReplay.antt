-- The versions that a list of edits folds to, and one edit more.
use Rattle.std.proofs.Common.{◌≡◌, ℕ, ◌+◌, List, [], ◌∷◌, ◌++◌, None, Some, length, get_or, refl, sym, ap, subst, ◌∙◌, arith, eqb, inl, inr}
use Rattle.std.specs.List.{slice_get}
use Rattle.std.proofs.lemmas.Bool.{not-false, eqb-true}
use Rattle.std.proofs.lemmas.Option.{slice_get-get_or}
use Rattle.std.proofs.lemmas.Grind.{flat_map-append}
use Rattle.lsm_edit.specs.declared.edit.Edit.{Edit}
use Rattle.lsm_key.proofs.Membership.{IsIn-append_cases}
use Rattle.lsm_edit.specs.Edit.{IsSpelledEdit, read_edit}
use Rattle.lsm_edit.specs.Version.{IsVersion, VersionValue, first_version, apply_fault, after_apply}
use Rattle.lsm_edit.proofs.EditLaws.{edit_again}
use Rattle.lsm_edit.proofs.NumbersNeverReturn.{removed_once}
use Rattle.lsm_edit.proofs.PushedEdits.{Apply-push, folded-push}
use Rattle.lsm_edit.proofs.VersionLaws.{none_passed}
use Rattle.lsm_edit.specs.Edits.{Apply, RemovedOnce, after_edits, versions_from}
use Rattle.lsm_versions.specs.Manifest.{ok_items, read_edits, versions_of, Folds}

-- ---- one edit more

pub spells_one : (text : List ℕ) (e : Edit) → IsSpelledEdit text e → ok_items (read_edit text) ≡ e ∷ []
spells_one text e one = ap ok_items (edit_again text e one)

-- the edits that are read are those and one more
pub read_edits-push : (texts : List (List ℕ)) (text : List ℕ) (e : Edit) → IsSpelledEdit text e → read_edits (texts ++ text ∷ []) ≡ read_edits texts ++ e ∷ []
read_edits-push texts text e one =
    flat_map-append (λ (t : List ℕ). ok_items (read_edit t)) texts (text ∷ [])
    ∙ ap (λ (es : List Edit). read_edits texts ++ (es ++ [])) (spells_one text e one)

versions_from-push : (v : VersionValue) (edits : List Edit) (e : Edit) → versions_from v (edits ++ e ∷ []) ≡ versions_from v edits ++ after_apply (after_edits v edits) e ∷ []
versions_from-push v [] e = refl
versions_from-push v (x ∷ edits) e = ap (λ (vs : List VersionValue). v ∷ vs) (versions_from-push (after_apply v x) edits e)

pub first_is : IsVersion first_version
first_is = record { number = omega arith; flushed = omega arith; epoch = omega arith; some_file = omega arith; next_file = omega arith; files = λ f m. absurd m; below = λ f m. absurd m; rising = tt; disjoint = refl }

-- no file is removed by two edits of a manifest that replays
pub removed_by_one : (texts : List (List ℕ)) (v : VersionValue) → Folds texts v → RemovedOnce (read_edits texts)
removed_by_one texts v h = removed_once first_version (read_edits texts) first_is h.apply

pub Folds-none : Folds [] first_version
Folds-none = record { spelled = λ text m. absurd m; apply = tt; makes = refl }

pub Folds-push : (texts : List (List ℕ)) (v : VersionValue) (text : List ℕ) (e : Edit) → Folds texts v → IsSpelledEdit text e → apply_fault v e ≡ None → Folds (texts ++ text ∷ []) (after_apply v e)
Folds-push texts v text e h one fits = record {
  spelled = λ t m. elim (IsIn-append_cases t texts (text ∷ []) m) [
    | inl before ↦ h.spelled t before
    | inr last ↦ elim last [ inl same ↦ (e, subst (λ (x : List ℕ). IsSpelledEdit x e) (sym same) one) | inr none ↦ absurd none ]
  ];
  apply = rw (read_edits-push texts text e one) (Apply-push first_version (read_edits texts) e h.apply (subst (λ (w : VersionValue). apply_fault w e ≡ None) (sym h.makes) fits));
  makes = ap (after_edits first_version) (read_edits-push texts text e one) ∙ folded-push first_version (read_edits texts) e ∙ ap (λ (w : VersionValue). after_apply w e) h.makes;
}

pub versions_of-push : (texts : List (List ℕ)) (v : VersionValue) (text : List ℕ) (e : Edit) → Folds texts v → IsSpelledEdit text e → versions_of (texts ++ text ∷ []) ≡ versions_of texts ++ after_apply v e ∷ []
versions_of-push texts v text e h one =
    ap (versions_from first_version) (read_edits-push texts text e one)
    ∙ versions_from-push first_version (read_edits texts) e
    ∙ ap (λ (w : VersionValue). versions_of texts ++ after_apply w e ∷ []) h.makes

-- ---- the current version

pub length-versions_from : (v : VersionValue) (edits : List Edit) → length (versions_from v edits) ≡ length edits + 1
length-versions_from v [] = refl
length-versions_from v (e ∷ edits) = let n = length-versions_from (after_apply v e) edits in omega (arith, n)

pub last_version : (v d : VersionValue) (edits : List Edit) → get_or (versions_from v edits) (length edits) d ≡ after_edits v edits
last_version v d [] = refl
last_version v d (e ∷ edits) = last_version (after_apply v e) d edits

pub next_number : (v : VersionValue) (e : Edit) → apply_fault v e ≡ None → e.number ≡ v.number + 1
next_number v e h = let a = none_passed _ _ _ h in eqb-true e.number (v.number + 1) (not-false (eqb e.number (v.number + 1)) a.0)

folded_number : (v : VersionValue) (edits : List Edit) → Apply v edits → (after_edits v edits).number ≡ v.number + length edits
folded_number v [] h = omega arith
folded_number v (e ∷ edits) h = let one = next_number v e h.0 in let rest = folded_number (after_apply v e) edits h.1 in omega (arith, one, rest)

-- the current version's number counts those before it
pub length-versions_of : (texts : List (List ℕ)) (v : VersionValue) → Folds texts v → length (versions_of texts) ≡ v.number + 1
length-versions_of texts v h =
    let count = length-versions_from first_version (read_edits texts) in
    let n = folded_number first_version (read_edits texts) h.apply in
    let m = ap (λ (w : VersionValue). w.number) h.makes in
    omega (arith, count, n, m)

-- the current version is the last one
pub current_at : (texts : List (List ℕ)) (v : VersionValue) → Folds texts v → slice_get (versions_of texts) v.number ≡ Some v
current_at texts v h =
    let count = length-versions_of texts v h in
    let long = length-versions_from first_version (read_edits texts) in
    let at : v.number ≡ length (read_edits texts) = omega (arith, count, long) in
    slice_get-get_or (versions_of texts) v.number first_version (omega (arith, count))
    ∙ ap (λ (i : ℕ). Some (get_or (versions_of texts) i first_version)) at
    ∙ ap Some (last_version first_version first_version (read_edits texts) ∙ h.makes)
