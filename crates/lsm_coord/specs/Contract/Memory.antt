-- What every coordinator keeps (LevelDB, implementation notes: the memtable has the writes after those that the tables have; RocksDB wiki, Remote Compaction: jobs stay valid while the primary continues).
use Rattle.std.specs.Prelude.{◌≡◌, ℕ, ◌<◌, ◌≤◌, List, Option, Some, length}
use Rattle.lsm_key.specs.declared.entry.Entry.{Entry}
use Rattle.lsm_key.specs.Sets.{IsIn}
use Rattle.lsm_claim.specs.declared.job.LiveJob.{LiveJob}
use Rattle.lsm_claim.specs.declared.job.Want.{Want}
use Rattle.lsm_claim.specs.Book.{BookValue, IsBook}
use Rattle.lsm_edit.specs.declared.edit.EditKind.TheVariants.{Install}
use Rattle.lsm_edit.specs.Edit.{AreRemoved}
use Rattle.lsm_edit.specs.declared.file.FileMeta.{FileMeta}
use Rattle.lsm_edit.specs.Edits.{RemovedOnce}
use Rattle.lsm_edit.specs.Served.{IsServed, ServedValue}
use Rattle.lsm_edit.specs.Version.{IsVersion}
use Rattle.lsm_key.specs.declared.limits.TheConstants.{MAX_JOB_LEVEL, MAX_SNAPSHOTS}
use Rattle.lsm_msg.specs.Legal.{IsLegal}
use Rattle.lsm_versions.specs.Manifest.{Folds, read_edits, versions_of}
use Rattle.lsm_versions.specs.Kept.{AreKept}
use Rattle.lsm_versions.specs.Retention.{AreRetired}
use Rattle.lsm_coord.specs.declared.frozen.Frozen.{Frozen}
use Rattle.lsm_coord.specs.declared.snapshot.Snapshot.{Snapshot}
use Rattle.lsm_coord.specs.Contract.Logs.{IsLogged}
use Rattle.lsm_coord.specs.Contract.Value.{CoordValue, start_of}

-- entries that were written after one sequence, and up to another
abbrev pub AreBetween : List Entry → ℕ → ℕ → Type 0
AreBetween entries after last = (e : Entry) → IsIn e entries → (after < e.ikey.seq) × (e.ikey.seq ≤ last)

-- jobs whose inputs may still be merged
abbrev pub AreLegal : List FileMeta → List LiveJob → Type 0
AreLegal files jobs = (j : LiveJob) → IsIn j jobs → IsLegal files j.want

-- inputs that a job may have: of a level that has one below it, its files by number
pub record IsJobWant (want : Want) : Type 0 where
  pub level : want.level ≤ MAX_JOB_LEVEL
  pub files : AreRemoved Install want.files

-- each job has inputs that a job may have
abbrev pub AreJobWants : List LiveJob → Type 0
AreJobWants jobs = (j : LiveJob) → IsIn j jobs → IsJobWant j.want

-- what every store keeps of its memtables, its claims and its snapshots
pub record IsCoord (active : List Entry) (frozen : Option Frozen) (last : ℕ) (served : ServedValue) (book : BookValue) (snapshots : List Snapshot) : Type 0 where
  pub recent : AreBetween active (start_of frozen served.version.flushed) last
  pub begun : start_of frozen served.version.flushed ≤ last
  pub waiting : (f : Frozen) → frozen ≡ Some f → (served.version.flushed < f.end) × (0 < length f.memtable)
  pub opened : 1 ≤ served.version.epoch
  pub same_epoch : book.epoch ≡ served.version.epoch
  pub legal : AreLegal served.version.files book.live
  pub orderly : AreJobWants book.live
  pub few : length snapshots ≤ MAX_SNAPSHOTS

-- What a store keeps of its versions, files and claims, whatever the results held that were installed: the manifest replays to
-- the current version, no file is removed by two of its edits, each file has its table as recorded, the retired files are those
-- that versions from the floor on list and the current one lacks, the vault has the same tables, its log holds what the memtables
-- have, claims are counted, and each live one is of a job whose inputs may still be merged.
pub record IsFit (c : CoordValue) : Type 0 where
  pub manifest : Folds c.stored.edits c.served.version
  pub once : RemovedOnce (read_edits c.stored.edits)
  pub version : IsVersion c.served.version
  pub served : IsServed c.served
  pub retired : AreRetired (versions_of c.stored.edits) c.served.version c.retired c.floor
  pub kept : AreKept c.stored.tables c.served.places c.retired
  pub logged : IsLogged c.active c.frozen c.last c.served.version.flushed c.stored.log
  pub book : IsBook c.book
  pub epoch : c.book.epoch ≡ c.served.version.epoch
  pub legal : AreLegal c.served.version.files c.book.live
  pub orderly : AreJobWants c.book.live
