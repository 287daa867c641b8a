-- When the result of a job may still be installed (RocksDB wiki, Remote Compaction: the primary installs what a worker made of a job that it handed out earlier; LevelDB, version_set.cc: SetupOtherInputs, IsBaseLevelForKey).
use Rattle.std.specs.Prelude.{◌≡◌, ◌≤◌, ◌⊎◌, true, ℕ, List}
use Rattle.lsm_key.specs.declared.entry.Entry.{Entry}
use Rattle.lsm_key.specs.Sets.{IsIn}
use Rattle.lsm_claim.specs.declared.job.LiveJob.{LiveJob}
use Rattle.lsm_claim.specs.Book.{BookValue, holds}
use Rattle.lsm_edit.specs.declared.file.FileMeta.{FileMeta}
use Rattle.lsm_edit.specs.declared.served.Placed.{Placed}
use Rattle.lsm_edit.specs.Served.{ServedValue}
use Rattle.lsm_msg.specs.declared.job.JobParts.{JobParts}
use Rattle.lsm_msg.specs.Installs.{IsJobOf}
use Rattle.lsm_msg.specs.Legal.{KnowsDeeper}
use Rattle.lsm_coord.specs.declared.snapshot.Snapshot.{Snapshot}
use Rattle.lsm_coord.specs.Contract.Value.{CoordValue}

-- a live claim has the job's name, and the job merges exactly the files of the claim's compaction in the current version
pub record HasClaim (files : List FileMeta) (b : BookValue) (job : JobParts) : Type 0 where
  pub live : LiveJob
  pub member : IsIn live b.live
  pub named : live.id ≡ job.id
  pub of_want : IsJobOf files live.want job

-- the entries of the job's inputs were all written by then
abbrev pub AreWrittenBy : ServedValue → JobParts → ℕ → Type 0
AreWrittenBy served job at =
    (p : Placed) → IsIn p served.places → IsIn p.meta job.inputs → (e : Entry) → IsIn e p.table.entries → e.ikey.seq ≤ at

-- The result of the job may be installed: its claim is live and names exactly the job's input files; its outputs are of the store's
-- block target; every live snapshot is one of the job's, or was taken after all input entries were written; the job lists every
-- deeper range that may hold an input key.
pub record IsSound (c : CoordValue) (job : JobParts) : Type 0 where
  pub claimed : HasClaim c.served.version.files c.book job
  pub block : job.block ≡ c.limits.block
  pub snapshots : (x : Snapshot) → IsIn x c.snapshots → IsIn x.at job.points ⊎ AreWrittenBy c.served job x.at
  pub deeper : KnowsDeeper c.served.places job

-- a call keeps every job sound whose claim it leaves live
abbrev pub KeepsSound : CoordValue → CoordValue → Type 0
KeepsSound old new = (job : JobParts) → IsSound old job → holds new.book job.id ≡ true → IsSound new job
