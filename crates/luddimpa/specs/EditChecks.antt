-- What a check of a list of edits answers (LevelDB, doc/impl.md: manifest; what an edit is and when it applies is in specs/Edit.antt and Version.antt of lsm_edit).
use Rattle.std.specs.Prelude.{◌≡◌, ℕ, ◌<◌, ◌^◌, List, [], ◌++◌, length, All, Option, None, Some, Err}
use Rattle.std.specs.List.{flat_map}
use Rattle.lsm_edit.specs.declared.edit.Edit.{Edit}
use Rattle.lsm_edit.specs.Edit.{IsEdit, edit, read_edit}
use Rattle.lsm_edit.specs.Edits.{Apply, after_edits}
use Rattle.lsm_edit.specs.Version.{VersionValue, after_apply, apply_fault, first_version}
use Rattle.lsm_msg.specs.Messages.{sized}
use Rattle.luddimpa.specs.declared.checked_edits.CheckedEdits.{CheckedEdits}
use Rattle.luddimpa.specs.declared.checked_edits.EditsFault.{EditsFault}
use Rattle.luddimpa.specs.declared.checked_edits.EditsFault.TheVariants.{CutShort, NotAnEdit, DoesNotApply, OutOfMemory}
use Rattle.luddimpa.specs.declared.status.Status.{Status}
use Rattle.luddimpa.specs.declared.status.Status.TheVariants as status
use Rattle.luddimpa.specs.Elements.{BeginsNone}
use Rattle.luddimpa.specs.Statuses.{apply_error_code, format_fault_code, status_code}

abbrev pub edits_status : Option EditsFault → Status
edits_status None = status.Ok
edits_status (Some CutShort) = status.CutShort
edits_status (Some (NotAnEdit fault)) = status.NotAnEdit
edits_status (Some (DoesNotApply why)) = status.DoesNotApply
edits_status (Some OutOfMemory) = status.OutOfMemory

abbrev pub edits_fault_code : Option EditsFault → ℕ
edits_fault_code None = 0
edits_fault_code (Some CutShort) = 0
edits_fault_code (Some (NotAnEdit fault)) = format_fault_code fault
edits_fault_code (Some (DoesNotApply why)) = apply_error_code why
edits_fault_code (Some OutOfMemory) = 0

abbrev pub checked_edits_of : VersionValue → Option EditsFault → CheckedEdits
checked_edits_of v fault = record {
  status = status_code (edits_status fault);
  fault = edits_fault_code fault;
  number = v.number;
  flushed = v.flushed;
  epoch = v.epoch;
  next_file = v.next_file;
  files = length v.files;
}

-- an edit behind its length
abbrev pub sized_edit : Edit → List ℕ
sized_edit e = sized (edit e)

abbrev pub IsSizedEdit : Edit → Type 0
IsSizedEdit e = IsEdit e × (length (edit e) < 2 ^ 32)

-- the bytes begin with edits that apply in turn, from version 0 to this one, and these come behind them
pub record Replays (bytes : List ℕ) (v : VersionValue) (rest : List ℕ) : Type 0 where
  pub edits : List Edit
  pub sound : All IsSizedEdit edits
  pub parts : bytes ≡ flat_map sized_edit edits ++ rest
  pub apply : Apply first_version edits
  pub makes : v ≡ after_edits first_version edits

-- the bytes of an element are no edit
abbrev pub IsNoEdit : List ℕ → EditsFault → Type 0
IsNoEdit text CutShort = ⊥
IsNoEdit text (NotAnEdit fault) = read_edit text ≡ Err fault
IsNoEdit text (DoesNotApply why) = ⊥
IsNoEdit text OutOfMemory = Unit {0}

-- an edit does not apply to a version
abbrev pub RefusesEdit : VersionValue → Edit → EditsFault → Type 0
RefusesEdit v e CutShort = ⊥
RefusesEdit v e (NotAnEdit fault) = ⊥
RefusesEdit v e (DoesNotApply why) = apply_fault v e ≡ Some why
RefusesEdit v e OutOfMemory = Unit {0}

-- at the front of the rest stands no element, an element that is no edit, or an edit that does not apply
abbrev pub StopsAt : VersionValue → List ℕ → EditsFault → Type 0
StopsAt v rest CutShort = (0 < length rest) × BeginsNone rest
StopsAt v rest (NotAnEdit fault) = (text more : List ℕ) × (length text < 2 ^ 32) × (rest ≡ sized text ++ more) × (read_edit text ≡ Err fault)
StopsAt v rest (DoesNotApply why) = (e : Edit) × (more : List ℕ) × IsSizedEdit e × (rest ≡ sized_edit e ++ more) × (apply_fault v e ≡ Some why)
StopsAt v rest OutOfMemory = Unit {0}

-- one edit is taken from the rest and applied
pub record AppliesOne (v : VersionValue) (rest : List ℕ) (next : VersionValue) (more : List ℕ) : Type 0 where
  pub one : Edit
  pub sound : IsSizedEdit one
  pub parts : rest ≡ sized_edit one ++ more
  pub fits : apply_fault v one ≡ None
  pub makes : next ≡ after_apply v one

-- the whole list replays to the version; or a beginning of it, behind which the fault stands
abbrev pub ChecksEdits : List ℕ → VersionValue → Option EditsFault → Type 0
ChecksEdits bytes v None = Replays bytes v []
ChecksEdits bytes v (Some fault) = (rest : List ℕ) × Replays bytes v rest × StopsAt v rest fault
