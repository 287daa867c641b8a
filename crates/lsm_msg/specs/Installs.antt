-- What an install takes out of a version and puts in, and what a flush adds (LevelDB, db_impl.cc: InstallCompactionResults, WriteLevel0Table; version_set.cc: LogAndApply).
use Rattle.std.specs.Prelude.{◌≡◌, ◌↔◌, ℕ, ◌+◌, true, List, ◌∷◌, None, map}
use Rattle.lsm_key.specs.declared.entry.Entry.{Entry}
use Rattle.lsm_key.specs.Sets.{IsIn}
use Rattle.lsm_key.specs.Places.{all_entries}
use Rattle.lsm_table.specs.Tables.{Opened}
use Rattle.lsm_claim.specs.declared.job.Want.{Want}
use Rattle.lsm_edit.specs.declared.file.FileMeta.{FileMeta}
use Rattle.lsm_edit.specs.declared.edit.Edit.{Edit}
use Rattle.lsm_edit.specs.declared.served.Placed.{Placed}
use Rattle.lsm_edit.specs.Edit.{IsEdit}
use Rattle.lsm_edit.specs.Next.{flush_edit}
use Rattle.lsm_edit.specs.Version.{apply_fault, after_apply}
use Rattle.lsm_edit.specs.Served.{ServedValue, AreAsRecorded}
use Rattle.lsm_msg.specs.declared.job.JobParts.{JobParts}
use Rattle.lsm_msg.specs.Legal.{Takes, encloses}

-- the job merges exactly the files of the want
pub record IsJobOf (files : List FileMeta) (want : Want) (job : JobParts) : Type 0 where
  pub level : job.level ≡ want.level
  pub inputs : (f : FileMeta) → IsIn f job.inputs ↔ Takes files want f

-- the entry is in the table of an input
abbrev pub IsInputOf : List Placed → Want → Entry → Type 0
IsInputOf places want e = (p : Placed) × IsIn p places × IsIn p.meta.number want.files × IsIn e p.table.entries

-- the entries of all inputs, in whatever order
abbrev pub AreInputsOf : List Placed → Want → List Entry → Type 0
AreInputsOf places want entries = (e : Entry) → IsIn e entries ↔ IsInputOf places want e

-- the entries of all of the tables
abbrev pub entries_of : List Opened → List Entry
entries_of tables = all_entries (map (λ t. t.entries) tables)

-- the tables have no entry that the inputs lack
abbrev pub AddNoEntry : List Placed → Want → List Opened → Type 0
AddNoEntry places want tables = (e : Entry) → IsIn e (entries_of tables) → IsInputOf places want e

-- The edit applies. It takes just the inputs out, and puts in files of the next level whose keys are in the hull, with their tables.
pub record Installs (s : ServedValue) (want : Want) (edit : Edit) (tables : List Opened) : Type 0 where
  pub sound : IsEdit edit
  pub applies : apply_fault s.version edit ≡ None
  pub removed : edit.removed ≡ want.files
  pub level : (f : FileMeta) → IsIn f edit.added → f.level ≡ want.level + 1
  pub inside : (f : FileMeta) → IsIn f edit.added → encloses want.hull f ≡ true
  pub recorded : AreAsRecorded edit.added tables

-- one file more, which is searched first
abbrev pub with_flushed : ServedValue → ℕ → FileMeta → Opened → ServedValue
with_flushed s flushed file table = record { version = after_apply s.version (flush_edit s.version flushed file); places = record { meta = file; table = table } ∷ s.places }
