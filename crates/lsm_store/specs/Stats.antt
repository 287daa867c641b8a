-- What a level of a store has (LevelDB, db.h: GetProperty, leveldb.stats).
use Rattle.std.specs.Prelude.{◌≡◌, ℕ, ◌+◌, ◌-◌, ◌^◌, Bool, true, false, if◌then◌else◌, List, filter, length, min, sum_by}
use Rattle.std.specs.List.{flat_map}
use Rattle.lsm_edit.specs.declared.edit.Edit.{Edit}
use Rattle.lsm_edit.specs.declared.edit.EditKind.{EditKind}
use Rattle.lsm_edit.specs.declared.edit.EditKind.TheVariants.{Epoch, Flush, Install}
use Rattle.lsm_edit.specs.declared.file.FileMeta.{FileMeta}
use Rattle.lsm_pick.specs.Due.{of_level}
use Rattle.lsm_versions.specs.Manifest.{read_edits}
use Rattle.lsm_store.specs.declared.stats.LevelStats.{LevelStats}
use Rattle.lsm_store.specs.declared.written.Written.{Written}

-- a sum, or the greatest number of 64 bits
abbrev pub saturated_sum : (FileMeta → ℕ) → List FileMeta → ℕ
saturated_sum weight files = min (sum_by weight files) (2 ^ 64 - 1)

-- the number of files of the level, their bytes and their entries
pub record IsLevelStats (files : List FileMeta) (level : ℕ) (stats : LevelStats) : Type 0 where
  pub files_are : stats.files ≡ length (of_level level files)
  pub bytes_are : stats.bytes ≡ saturated_sum (λ f. f.bytes) (of_level level files)
  pub entries_are : stats.entries ≡ saturated_sum (λ f. f.entries) (of_level level files)

-- ---- what was written

-- the files that edits of a kind have added
abbrev pub files_by : (EditKind → Bool) → List Edit → List FileMeta
files_by is_kind edits = flat_map (λ e. e.added) (filter (λ e. is_kind e.kind) edits)

-- the edit is of a flush
abbrev pub by_flush : EditKind → Bool
by_flush Flush = true
by_flush Install = false
by_flush Epoch = false

-- the edit is of an install
abbrev pub by_install : EditKind → Bool
by_install Flush = false
by_install Install = true
by_install Epoch = false

-- the bytes of all files that flushes and installs have made (RocksDB, statistics: flush and compaction write bytes)
pub record WroteBytes (edits : List (List ℕ)) (written : Written) : Type 0 where
  pub flushed_are : written.flushed ≡ saturated_sum (λ f. f.bytes) (files_by by_flush (read_edits edits))
  pub compacted_are : written.compacted ≡ saturated_sum (λ f. f.bytes) (files_by by_install (read_edits edits))

-- a sum with the bytes of these files, if they count
abbrev pub added_to : ℕ → Bool → List FileMeta → ℕ
added_to total counts files = if counts then min (total + saturated_sum (λ f. f.bytes) files) (2 ^ 64 - 1) else total
