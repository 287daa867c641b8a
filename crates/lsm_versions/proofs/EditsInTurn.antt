-- What stands at the places of a list of edits and of the versions that they make.
use Rattle.std.proofs.Common.{◌≡◌, ℕ, zero, suc, ◌+◌, ◌<◌, ◌≤◌, List, [], ◌∷◌, ◌++◌, None, Some, length, get_or, refl, sym, ap, subst, ◌∙◌, inl, inr, arith}
use Rattle.std.specs.List.{slice_get}
use Rattle.std.proofs.lemmas.Option.{same_Some, slice_get-get_or}
use Rattle.lsm_key.specs.Sets.{IsIn}
use Rattle.lsm_key.proofs.Membership.{IsIn-append_cases, IsIn-one}
use Rattle.lsm_edit.specs.declared.edit.Edit.{Edit}
use Rattle.lsm_edit.specs.Edit.{IsEdit, IsSpelledEdit, read_edit}
use Rattle.lsm_edit.specs.Edits.{Apply, versions_from}
use Rattle.lsm_edit.specs.Version.{VersionValue, after_apply, apply_fault, first_version}
use Rattle.lsm_versions.specs.Manifest.{Folds, ok_items, read_edits}
use Rattle.lsm_versions.proofs.ManifestReplay.{length-versions_from, length-versions_of, next_number, spells_one}

-- ---- versions by number

pub first_at : (v : VersionValue) (es : List Edit) → slice_get (versions_from v es) 0 ≡ Some v
first_at v [] = refl
first_at v (e ∷ es) = refl

-- a version's number counts those before it
pub number_at : (v : VersionValue) (es : List Edit) (k : ℕ) (w : VersionValue) → Apply v es → slice_get (versions_from v es) k ≡ Some w → w.number ≡ v.number + k
number_at v [] zero w h at = let same = ap (λ (x : VersionValue). x.number) (same_Some v w at) in omega (arith, same)
number_at v [] (suc k) w h at = absurd cc
number_at v (e ∷ es) zero w h at = let same = ap (λ (x : VersionValue). x.number) (same_Some v w at) in omega (arith, same)
number_at v (e ∷ es) (suc k) w h at = let one = next_number v e h.0 in let rest = number_at (after_apply v e) es k w h.1 at in omega (arith, one, rest)

pub version_there : (v : VersionValue) (es : List Edit) (k : ℕ) → k ≤ length es → (w : VersionValue) × (slice_get (versions_from v es) k ≡ Some w)
version_there v es k le = let long = length-versions_from v es in (get_or (versions_from v es) k v, slice_get-get_or (versions_from v es) k v (omega (arith, long)))

pub edit_there : (es : List Edit) (k : ℕ) → k < length es → (e : Edit) × (slice_get es k ≡ Some e)
edit_there [] k lt = absurd (omega arith)
edit_there (e ∷ es) k lt = (get_or (e ∷ es) k e, slice_get-get_or (e ∷ es) k e lt)

-- the edit after a version applies to it and makes the next one
pub next_version : (v : VersionValue) (es : List Edit) (k : ℕ) (e : Edit) (w : VersionValue) → Apply v es → slice_get es k ≡ Some e → slice_get (versions_from v es) k ≡ Some w → (apply_fault w e ≡ None) × (slice_get (versions_from v es) (k + 1) ≡ Some (after_apply w e))
next_version v [] k e w h at from = absurd cc
next_version v (x ∷ es) zero e w h at from =
    let here = same_Some x e at in
    let same = same_Some v w from in
    ((λ i. apply_fault (sym same i) (sym here i)) ∙ h.0, first_at (after_apply v x) es ∙ (λ i. Some (after_apply (same i) (here i))))
next_version v (x ∷ es) (suc k) e w h at from =
    let rest = next_version (after_apply v x) es k e w h.1 at from in
    let one : suc k + 1 ≡ suc (k + 1) = omega arith in
    (rest.0, ap (slice_get (versions_from v (x ∷ es))) one ∙ rest.1)

-- an edit has the number of the version that it makes
pub edit_number : (v : VersionValue) (es : List Edit) (k : ℕ) (e : Edit) → Apply v es → slice_get es k ≡ Some e → e.number ≡ v.number + k + 1
edit_number v [] k e h at = absurd cc
edit_number v (x ∷ es) zero e h at =
    let one = next_number v x h.0 in
    let same = ap (λ (y : Edit). y.number) (same_Some x e at) in
    omega (arith, one, same)
edit_number v (x ∷ es) (suc k) e h at = let one = next_number v x h.0 in let rest = edit_number (after_apply v x) es k e h.1 at in omega (arith, one, rest)

-- more edits leave the versions before them
pub versions_stay : (v : VersionValue) (es more : List Edit) (k : ℕ) (w : VersionValue) → slice_get (versions_from v es) k ≡ Some w → slice_get (versions_from v (es ++ more)) k ≡ Some w
versions_stay v [] more zero w at = first_at v more ∙ at
versions_stay v [] more (suc k) w at = absurd cc
versions_stay v (e ∷ es) more zero w at = at
versions_stay v (e ∷ es) more (suc k) w at = versions_stay (after_apply v e) es more k w at

-- ---- the edits of a manifest

-- there are as many as the current version's number
pub length-read_edits : (texts : List (List ℕ)) (v : VersionValue) → Folds texts v → length (read_edits texts) ≡ v.number
length-read_edits texts v h =
    let count = length-versions_of texts v h in
    let long = length-versions_from first_version (read_edits texts) in
    omega (arith, count, long)

pub edit_at : (texts : List (List ℕ)) (v : VersionValue) → Folds texts v → (k : ℕ) → k < v.number → (e : Edit) × (slice_get (read_edits texts) k ≡ Some e)
edit_at texts v h k lt = let count = length-read_edits texts v h in edit_there (read_edits texts) k (omega (arith, count, lt))

sound_each : (texts : List (List ℕ)) → ((text : List ℕ) → IsIn text texts → (e : Edit) × IsSpelledEdit text e) → (e : Edit) → IsIn e (read_edits texts) → IsEdit e
sound_each [] spelled e m = absurd m
sound_each (text ∷ texts) spelled e m =
    elim (IsIn-append_cases e (ok_items (read_edit text)) (read_edits texts) m) [
      | inl here ↦
          let one = spelled text (inl refl) in
          subst IsEdit (sym (IsIn-one e one.0 (subst (IsIn e) (spells_one text one.0 one.1) here))) one.1.sound
      | inr later ↦ sound_each texts (λ t n. spelled t (inr n)) e later
    ]

pub edit_sound : (texts : List (List ℕ)) (v : VersionValue) → Folds texts v → (e : Edit) → IsIn e (read_edits texts) → IsEdit e
edit_sound texts v h e m = sound_each texts h.spelled e m

-- a text of the manifest and the edit that it spells stand at one place
read_each : (texts : List (List ℕ)) → ((text : List ℕ) → IsIn text texts → (e : Edit) × IsSpelledEdit text e) → (k : ℕ) (text : List ℕ) (e : Edit) → slice_get texts k ≡ Some text → IsSpelledEdit text e → slice_get (read_edits texts) k ≡ Some e
read_each [] spelled k text e at one = absurd cc
read_each (t ∷ texts) spelled zero text e at one =
    let same : ok_items (read_edit t) ≡ e ∷ [] = ap (λ (x : List ℕ). ok_items (read_edit x)) (same_Some t text at) ∙ spells_one text e one in
    ap (λ (es : List Edit). slice_get (es ++ read_edits texts) 0) same
read_each (t ∷ texts) spelled (suc k) text e at one =
    let first = spelled t (inl refl) in
    ap (λ (es : List Edit). slice_get (es ++ read_edits texts) (suc k)) (spells_one t first.0 first.1) ∙ read_each texts (λ x n. spelled x (inr n)) k text e at one

pub read_at : (texts : List (List ℕ)) (v : VersionValue) → Folds texts v → (k : ℕ) (text : List ℕ) (e : Edit) → slice_get texts k ≡ Some text → IsSpelledEdit text e → slice_get (read_edits texts) k ≡ Some e
read_at texts v h k text e at one = read_each texts h.spelled k text e at one

-- each text spells one edit
count_each : (texts : List (List ℕ)) → ((text : List ℕ) → IsIn text texts → (e : Edit) × IsSpelledEdit text e) → length texts ≡ length (read_edits texts)
count_each [] spelled = refl
count_each (text ∷ texts) spelled =
    let first = spelled text (inl refl) in
    let rest = count_each texts (λ t m. spelled t (inr m)) in
    let one = ap (λ (es : List Edit). length (es ++ read_edits texts)) (spells_one text first.0 first.1) in
    omega (arith, rest, one)

pub length-texts : (texts : List (List ℕ)) (v : VersionValue) → Folds texts v → length texts ≡ v.number
length-texts texts v h = count_each texts h.spelled ∙ length-read_edits texts v h
