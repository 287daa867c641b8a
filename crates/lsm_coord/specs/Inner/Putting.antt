-- What becomes of a version set at an install and at a flush.
use Rattle.std.specs.Prelude.{◌≡◌, ℕ, ◌+◌, ◌<◌, ◌≤◌, List, [], ◌∷◌, ◌++◌, None}
use Rattle.std.specs.FinMap as map
use Rattle.lsm_key.specs.declared.limits.TheConstants.{MAX_NUMBER}
use Rattle.lsm_claim.specs.declared.job.LiveJob.{LiveJob}
use Rattle.lsm_table.specs.Tables.{Opened}
use Rattle.lsm_edit.specs.declared.edit.Edit.{Edit}
use Rattle.lsm_edit.specs.declared.file.FileMeta.{FileMeta}
use Rattle.lsm_edit.specs.Edit.{IsEdit, edit as edit_bytes}
use Rattle.lsm_edit.specs.Next.{flush_edit}
use Rattle.lsm_edit.specs.Version.{VersionValue, apply_fault}
use Rattle.lsm_msg.specs.declared.job.JobResult.{JobResult}
use Rattle.lsm_msg.specs.Installs.{with_flushed}
use Rattle.lsm_versions.specs.Manifest.{MayHavePut, VersionSetValue, after_logging}
use Rattle.lsm_coord.specs.declared.coord.install.InstallError.{InstallError}
use Rattle.lsm_coord.specs.declared.coord.install.InstallError.TheVariants.{WrongJob, BadResult, NumbersExhausted, OutOfMemory, Device}
use Rattle.lsm_coord.specs.declared.coord.install.Put.{Put}
use Rattle.lsm_coord.specs.Contract.Installing.{IsAcceptable, IsOutput, install_edit_of, output_numbers}

-- the result is acceptable, the edit of its install is logged and applied, and the version's number and its new files are reported
pub record PutsOutputs (block : ℕ) (old : VersionSetValue) (live : LiveJob) (made : JobResult) (put : Put) (new : VersionSetValue) : Type 0 where
  pub tables : List Opened
  pub accepted : IsAcceptable block old.served.version live made tables
  pub edit : Edit
  pub edit_is : edit ≡ install_edit_of old.served.version live.want tables
  pub valid : IsEdit edit
  pub applies : apply_fault old.served.version edit ≡ None
  pub new_is : new ≡ record (after_logging old edit tables) { failures = new.failures }
  pub counted : old.failures ≤ new.failures
  pub number_is : put.number ≡ old.served.version.number + 1
  pub files_are : put.files ≡ output_numbers old.served.version live.want tables

-- what a rejected result leaves of the version set
abbrev pub PutLeaves : JobResult → InstallError → VersionSetValue → VersionSetValue → Type 0
PutLeaves made WrongJob old new = new ≡ old
PutLeaves made BadResult old new = new ≡ old
PutLeaves made NumbersExhausted old new = new ≡ old
PutLeaves made OutOfMemory old new = MayHavePut (IsOutput old.served.version made) old new × (old.failures ≤ new.failures)
PutLeaves made Device old new = MayHavePut (IsOutput old.served.version made) old new × (old.failures < new.failures)

-- the file's number, and its table's bytes
abbrev pub IsTableOfFile : FileMeta → Opened → ℕ → List ℕ → Type 0
IsTableOfFile file table n bytes = (file.number ≡ n) × (table.bytes ≡ bytes)

-- the edit of a flush to a file is logged and applied, and the file is searched first
pub record AddsFile (old : VersionSetValue) (end : ℕ) (file : FileMeta) (table : Opened) (new : VersionSetValue) : Type 0 where
  pub edit : Edit
  pub edit_is : edit ≡ flush_edit old.served.version end file
  pub valid : IsEdit edit
  pub applies : apply_fault old.served.version edit ≡ None
  pub new_is : new ≡ record old { served = with_flushed old.served end file table; stored = record old.stored { edits = old.stored.edits ++ edit_bytes edit ∷ []; tables = map.insert old.stored.tables file.number table.bytes }; failures = new.failures }
  pub counted : old.failures ≤ new.failures

-- the version's number and the next file number fit
pub record CanNumber (v : VersionValue) : Type 0 where
  pub number : v.number + 1 ≤ MAX_NUMBER
  pub next_file : v.next_file + 1 ≤ MAX_NUMBER
