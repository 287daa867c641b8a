-- Where a list of edits stops to replay, and the version that it replays to.
use Rattle.std.proofs.Common.{◌≡◌, ℕ, ◌+◌, ◌<◌, List, [], ◌∷◌, ◌++◌, None, drop, get_or, length, take, refl, sym, ap, subst, ◌∙◌, inl, arith}
use Rattle.std.specs.List.{slice_get}
use Rattle.std.proofs.lemmas.Grind.{flat_map-append}
use Rattle.std.proofs.lemmas.List.{drop_more, take-append-drop, take_more}
use Rattle.std.proofs.lemmas.Option.{same_Some, slice_get_within}
use Rattle.lsm_key.specs.Sets.{IsIn}
use Rattle.lsm_edit.specs.declared.edit.Edit.{Edit}
use Rattle.lsm_edit.specs.Edit.{IsSpelledEdit, read_edit}
use Rattle.lsm_edit.specs.Edits.{Apply, after_edits}
use Rattle.lsm_edit.specs.Version.{VersionValue, after_apply, apply_fault, first_version}
use Rattle.lsm_versions.specs.Manifest.{Folds, ok_items, read_edits, versions_of}
use Rattle.lsm_versions.specs.Opening.{manifest_version}
use Rattle.lsm_versions.specs.Retention.{AreRetired}
use Rattle.lsm_versions.proofs.ManifestReplay.{Folds-push, current_at, length-versions_of, spells_one}

applies_there : (v : VersionValue) (before : List Edit) (e : Edit) (after : List Edit) → Apply v (before ++ e ∷ after) → apply_fault (after_edits v before) e ≡ None
applies_there v [] e after h = h.0
applies_there v (x ∷ before) e after h = applies_there (after_apply v x) before e after h.1

module _ (texts : List (List ℕ)) (i : ℕ) (text : List ℕ) (lt : i < length texts) (at : text ≡ get_or texts i text) where
  -- one edit more
  pub folds_more : (v : VersionValue) (e : Edit) → Folds (take i texts) v → IsSpelledEdit text e → apply_fault v e ≡ None → Folds (take (i + 1) texts) (after_apply v e)
  folds_more v e before one fits = subst (λ (ts : List (List ℕ)). Folds ts (after_apply v e)) (sym (take_more texts i text lt ∙ ap (λ (t : List ℕ). take i texts ++ t ∷ []) (sym at))) (Folds-push (take i texts) v text e before one fits)

  split : texts ≡ take i texts ++ text ∷ drop (i + 1) texts
  split = sym (take-append-drop i texts) ∙ ap (λ (ts : List (List ℕ)). take i texts ++ ts) (drop_more texts i text lt ∙ ap (λ (t : List ℕ). t ∷ drop (i + 1) texts) (sym at))

  edits_split : (e : Edit) → IsSpelledEdit text e → read_edits texts ≡ read_edits (take i texts) ++ e ∷ read_edits (drop (i + 1) texts)
  edits_split e one =
      ap read_edits split
      ∙ flat_map-append (λ (t : List ℕ). ok_items (read_edit t)) (take i texts) (text ∷ drop (i + 1) texts)
      ∙ ap (λ (es : List Edit). read_edits (take i texts) ++ (es ++ read_edits (drop (i + 1) texts))) (spells_one text e one)

  -- an edit of a list that replays applies to the version that those before it make
  pub applies_next : (v w : VersionValue) (e : Edit) → Folds (take i texts) v → IsSpelledEdit text e → Folds texts w → apply_fault v e ≡ None
  applies_next v w e before one all =
      subst (λ (x : VersionValue). apply_fault x e ≡ None) before.makes
      (applies_there first_version (read_edits (take i texts)) e (read_edits (drop (i + 1) texts)) (subst (Apply first_version) (edits_split e one) all.apply))

-- a list replays to one version
pub folds_once : (texts : List (List ℕ)) (v : VersionValue) → Folds texts v → Folds texts (manifest_version texts)
folds_once texts v h = record { spelled = h.spelled; apply = h.apply; makes = refl }

-- at the floor of the current version no file is retired
pub none_retired : (texts : List (List ℕ)) (v : VersionValue) → Folds texts v → AreRetired (versions_of texts) v [] v.number
none_retired texts v h = record {
  rising = tt;
  low = omega arith;
  each = λ r m. absurd m;
  served = λ r m. absurd m;
  whole = λ k n from lists.
      let count = length-versions_of texts v h in
      let within = slice_get_within (versions_of texts) k lists.0 lists.1 in
      let last : k ≡ v.number = omega (arith, count, within, from) in
      let same : lists.0 ≡ v = same_Some _ _ (sym lists.1 ∙ ap (slice_get (versions_of texts)) last ∙ current_at texts v h) in
      inl (lists.2.0, subst (λ (x : VersionValue). IsIn lists.2.0 x.files) same lists.2.1, lists.2.2);
}
