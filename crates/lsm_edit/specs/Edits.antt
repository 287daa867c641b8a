-- Lists of edits, and the versions that they fold to (LevelDB, implementation notes: manifest).
use Rattle.std.specs.Prelude.{◌≡◌, ℕ, List, [], ◌∷◌, None}
use Rattle.lsm_key.specs.Sets.{IsIn}
use Rattle.lsm_edit.specs.declared.edit.Edit.{Edit}
use Rattle.lsm_edit.specs.Edit.{IsEdit}
use Rattle.lsm_edit.specs.Version.{VersionValue, IsVersion, apply_fault, after_apply}

-- each edit applies to the version that those before it make
abbrev pub Apply : VersionValue → List Edit → Type 0
Apply v [] = Unit {0}
Apply v (edit ∷ edits) = (apply_fault v edit ≡ None) × Apply (after_apply v edit) edits

-- the version after all edits
abbrev pub after_edits : VersionValue → List Edit → VersionValue
after_edits v [] = v
after_edits v (edit ∷ edits) = after_edits (after_apply v edit) edits

-- the version before all edits, and the one after each
abbrev pub versions_from : VersionValue → List Edit → List VersionValue
versions_from v [] = v ∷ []
versions_from v (edit ∷ edits) = v ∷ versions_from (after_apply v edit) edits

-- no number is among those that an edit removes and among those that a later one does
abbrev pub RemovedOnce : List Edit → Type 0
RemovedOnce [] = Unit {0}
RemovedOnce (edit ∷ edits) = ((n : ℕ) → IsIn n edit.removed → (later : Edit) → IsIn later edits → IsIn n later.removed → ⊥) × RemovedOnce edits

-- edits within the grammar that apply in turn to a version
pub record IsEditHistory (v : VersionValue) (edits : List Edit) : Type 0 where
  pub start : IsVersion v
  pub each : (edit : Edit) → IsIn edit edits → IsEdit edit
  pub apply : Apply v edits
