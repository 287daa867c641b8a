-- What installs and flushes leave as it was (O'Neil et al. 1996, section 2.2: rolling merges and finds; RocksDB wiki, Leveled Compaction: compactions in parallel).
use Rattle.std.specs.Prelude.{◌≡◌, ℕ, ◌≤◌, false, List, ◌++◌}
use Rattle.lsm_key.specs.declared.entry.Entry.{Entry}
use Rattle.lsm_key.specs.Sets.{IsIn}
use Rattle.lsm_key.specs.Visible.{IsUnique}
use Rattle.lsm_key.specs.Places.{IsAbove, AreOrdered, all_entries}
use Rattle.lsm_table.specs.Tables.{Opened}
use Rattle.lsm_claim.specs.declared.job.Want.{Want}
use Rattle.lsm_claim.specs.Conflicts.{conflicts}
use Rattle.lsm_edit.specs.declared.file.FileMeta.{FileMeta}
use Rattle.lsm_edit.specs.declared.edit.Edit.{Edit}
use Rattle.lsm_edit.specs.Version.{IsVersion}
use Rattle.lsm_edit.specs.Served.{ServedValue, IsServed, tables_of, after_advance}
use Rattle.lsm_msg.specs.declared.job.JobParts.{JobParts}
use Rattle.lsm_msg.specs.Merge.{HoldsKept}
use Rattle.lsm_msg.specs.Laws.{ReadAlike}
use Rattle.lsm_msg.specs.Legal.{IsLegal, KnowsDeeper}
use Rattle.lsm_msg.specs.Installs.{IsJobOf, AreInputsOf, AddNoEntry, Installs, entries_of, with_flushed}

-- reads after an install of what is kept return what they returned before, with newer entries above the version or none
abbrev pub InstallsKeepReads : Type 0
InstallsKeepReads =
    (s : ServedValue) (want : Want) (job : JobParts) (edit : Edit) (tables : List Opened) (inputs above : List Entry)
    → IsVersion s.version → IsServed s → AreOrdered (tables_of s.places)
    → IsLegal s.version.files want → IsJobOf s.version.files want job → KnowsDeeper s.places job → Installs s want edit tables
    → AreInputsOf s.places want inputs → HoldsKept inputs job.points job.deeper (entries_of tables)
    → IsUnique above → IsAbove above (all_entries (tables_of s.places))
    → ReadAlike job.points inputs (above ++ all_entries (tables_of (after_advance s edit tables).places)) (above ++ all_entries (tables_of s.places))

-- an install of entries of the inputs adds no entry to those of the version
abbrev pub InstallsAddNoEntry : Type 0
InstallsAddNoEntry =
    (s : ServedValue) (want : Want) (edit : Edit) (tables : List Opened)
    → IsVersion s.version → IsServed s → IsLegal s.version.files want → Installs s want edit tables → AddNoEntry s.places want tables
    → (e : Entry) → IsIn e (all_entries (tables_of (after_advance s edit tables).places)) → IsIn e (all_entries (tables_of s.places))

-- after an install of entries of the inputs the newer entries of a key are still in the place that is searched first
abbrev pub InstallsKeepOrder : Type 0
InstallsKeepOrder =
    (s : ServedValue) (want : Want) (edit : Edit) (tables : List Opened)
    → IsVersion s.version → IsServed s → AreOrdered (tables_of s.places)
    → IsLegal s.version.files want → Installs s want edit tables → AddNoEntry s.places want tables
    → AreOrdered (tables_of (after_advance s edit tables).places)

-- another want that does not conflict is still legal, and a job of it still has its inputs and knows its deeper keys
abbrev pub InstallsKeepJobs : Type 0
InstallsKeepJobs =
    (s : ServedValue) (want other : Want) (edit : Edit) (tables : List Opened)
    → IsVersion s.version → IsServed s → IsLegal s.version.files want → Installs s want edit tables
    → conflicts want other ≡ false → IsLegal s.version.files other
    → IsLegal (after_advance s edit tables).version.files other
    × ((job : JobParts) → IsJobOf s.version.files other job
    → IsJobOf (after_advance s edit tables).version.files other job
    × (AddNoEntry s.places want tables → KnowsDeeper s.places job → KnowsDeeper (after_advance s edit tables).places job))

-- after a flush of newer entries the newer entries of a key are still in the place that is searched first
abbrev pub FlushesKeepOrder : Type 0
FlushesKeepOrder =
    (s : ServedValue) (flushed : ℕ) (file : FileMeta) (table : Opened)
    → AreOrdered (tables_of s.places) → IsAbove table.entries (all_entries (tables_of s.places))
    → AreOrdered (tables_of (with_flushed s flushed file table).places)

-- each want is still legal, and a job of it still has its inputs and knows its deeper keys
abbrev pub FlushesKeepJobs : Type 0
FlushesKeepJobs =
    (s : ServedValue) (flushed : ℕ) (file : FileMeta) (table : Opened) (want : Want)
    → IsVersion s.version → file.level ≡ 0 → s.version.next_file ≤ file.number → IsLegal s.version.files want
    → IsLegal (with_flushed s flushed file table).version.files want
    × ((job : JobParts) → IsJobOf s.version.files want job
    → IsJobOf (with_flushed s flushed file table).version.files want job
    × (KnowsDeeper s.places job → KnowsDeeper (with_flushed s flushed file table).places job))
