-- What the nodes of a store have made so far, and what each of them, and each message, may have of it (RocksDB wiki, Remote Compaction: a
-- job names its inputs, and its result stands for them; LevelDB, implementation notes: file numbers are not reused).
use Rattle.std.specs.Prelude.{◌≡◌, ℕ, ◌+◌, ◌∷◌, ◌<◌, ◌≤◌, List, [], Option, None, Some, IfSome, filter, length, nat_eq, true, map, slice_get}
use Rattle.std.specs.FinMap.{get}
use Rattle.lsm_key.specs.Sets.{IsIn}
use Rattle.lsm_claim.specs.declared.job.LiveJob.{LiveJob}
use Rattle.lsm_claim.specs.Book.{BookValue, holds, new_book}
use Rattle.lsm_edit.specs.declared.edit.Edit.{Edit}
use Rattle.lsm_edit.specs.declared.file.FileMeta.{FileMeta}
use Rattle.lsm_edit.specs.declared.served.Placed.{Placed}
use Rattle.lsm_edit.specs.Served.{AllRecorded, IsAsRecorded}
use Rattle.lsm_edit.specs.Edits.{Apply, versions_from}
use Rattle.lsm_edit.specs.Version.{VersionValue, first_version}
use Rattle.lsm_vault.specs.Stored.{VaultValue}
use Rattle.lsm_follow.specs.Followers.{FollowerValue, PendingValue}
use Rattle.lsm_msg.specs.declared.job.JobParts.{JobParts}
use Rattle.lsm_msg.specs.declared.job.JobResult.{JobResult}
use Rattle.lsm_msg.specs.declared.message.Body.{Body}
use Rattle.lsm_msg.specs.declared.message.Body.TheVariants as body
use Rattle.lsm_msg.specs.declared.message.Message.{Message}
use Rattle.lsm_msg.specs.Jobs.{IsJob}
use Rattle.lsm_msg.specs.Messages.{IsSpelled}
use Rattle.lsm_merge.specs.Outputs.{IsMerge}
use Rattle.lsm_versions.specs.declared.retired.Retired.{Retired}
use Rattle.lsm_versions.specs.Manifest.{read_edits}
use Rattle.lsm_versions.specs.Opening.{manifest_version}
use Rattle.lsm_coord.specs.declared.dispatcher.Dispatcher.{Dispatcher}
use Rattle.lsm_coord.specs.declared.dispatcher.Dispatcher.TheVariants.{Busy}
use Rattle.lsm_coord.specs.Contract.Memory.{IsFit}
use Rattle.lsm_coord.specs.Contract.Picking.{IsPicked}
use Rattle.lsm_coord.specs.Contract.Sound.{IsSound}
use Rattle.lsm_coord.specs.Contract.Value.{CoordValue}
use Rattle.lsm_store.specs.Compacting.{tables_at}
use Rattle.lsm_work.specs.Workers.{TaskValue, WorkerValue}
use Rattle.lsm_world.specs.Nodes.{NetworkValue, NodesValue, StoreValue, nodes_with}

-- what the nodes of a store have made so far
pub record History : Type 0 where
  pub files : List Placed  -- files with their tables, among them each that a version ever listed
  pub jobs : List JobParts  -- each job that a pick answered, the last one first
  pub edits : List Edit  -- each edit, from edit 1

-- ---- versions

-- version 0, and the one after each edit
abbrev pub versions_in : History → List VersionValue
versions_in h = versions_from first_version h.edits

-- it is the version of its number
abbrev pub IsVersionOf : History → VersionValue → Type 0
IsVersionOf h v = slice_get (versions_in h) v.number ≡ Some v

-- a version has this number
abbrev pub IsVersionNumber : History → ℕ → Type 0
IsVersionNumber h number = number ≤ length h.edits

-- the edit is that of its number
abbrev pub IsEditOf : History → Edit → Type 0
IsEditOf h e = (place : ℕ) × (slice_get h.edits place ≡ Some e)

-- ---- files

-- the record is that of a file
abbrev pub IsFileOf : History → FileMeta → Type 0
IsFileOf h f = (p : Placed) × IsIn p h.files × (p.meta ≡ f)

-- a file has this number
abbrev pub IsNumbered : History → ℕ → Type 0
IsNumbered h number = (p : Placed) × IsIn p h.files × (p.meta.number ≡ number)

-- the bytes are those of the table of this number
abbrev pub IsTableAt : History → ℕ → List ℕ → Type 0
IsTableAt h number bytes = (p : Placed) × IsIn p h.files × (p.meta.number ≡ number) × (p.table.bytes ≡ bytes)

-- Each number names one file with one table, which is as the file's record says. The edits apply in turn, and each file that a
-- version lists is one of these.
pub record AreFilesOf (h : History) : Type 0 where
  pub one : (p q : Placed) → IsIn p h.files → IsIn q h.files → p.meta.number ≡ q.meta.number → p ≡ q
  pub recorded : AllRecorded h.files
  pub apply : Apply first_version h.edits
  pub listed : (v : VersionValue) (f : FileMeta) → IsIn v (versions_in h) → IsIn f v.files → IsFileOf h f

-- The edits are the manifest's, and the numbers of these files were given. Each file that the coordinator serves or has retired is
-- one of them.
pub record AreFiles (h : History) (c : CoordValue) : Type 0 where
  pub all : AreFilesOf h
  pub edits : h.edits ≡ read_edits c.stored.edits
  pub given : (p : Placed) → IsIn p h.files → p.meta.number < c.served.version.next_file
  pub served : (p : Placed) → IsIn p c.served.places → IsIn p h.files
  pub retired : (r : Retired) → IsIn r c.retired → IsTableAt h r.number r.bytes

-- ---- jobs

-- those of an epoch
abbrev pub of_epoch : ℕ → List JobParts → List JobParts
of_epoch epoch jobs = filter (λ j. nat_eq j.id.epoch epoch) jobs

-- The jobs of each epoch are numbered from 1 in the order given. So no job has a number above the last given in its epoch.
abbrev pub AreNumberedInOrder : List JobParts → Type 0
AreNumberedInOrder [] = Unit {0}
AreNumberedInOrder (job ∷ earlier) = (job.id.number ≡ length (of_epoch job.id.epoch earlier) + 1) × AreNumberedInOrder earlier

-- a pick answered the job, of a coordinator that was at a version of the history
pub record WasPicked (h : History) (job : JobParts) : Type 0 where
  pub old : CoordValue
  pub new : CoordValue
  pub claim : LiveJob
  pub fit : IsFit old
  pub version : IsVersionOf h old.served.version
  pub picked : IsPicked old claim job new

-- A pick answered each job, and the jobs of an epoch are numbered in order. Each job is within the rules of its format, has a name of
-- its own, and merges files of the history. Messages, workers and claims name no other jobs: so no message has a job number above the
-- last given in its epoch, also if that epoch is over.
pub record AreJobsOf (h : History) : Type 0 where
  pub picked : (j : JobParts) → IsIn j h.jobs → WasPicked h j
  pub numbered : AreNumberedInOrder h.jobs
  pub job : (j : JobParts) → IsIn j h.jobs → IsJob j
  pub one : (i j : JobParts) → IsIn i h.jobs → IsIn j h.jobs → i.id ≡ j.id → i ≡ j
  pub inputs : (j : JobParts) (f : FileMeta) → IsIn j h.jobs → IsIn f j.inputs → IsFileOf h f

-- No job's epoch is to come yet, the last number that the book gave is the count of the jobs of its epoch, and a job is sound while its
-- claim is live.
pub record AreJobs (h : History) (c : CoordValue) : Type 0 where
  pub all : AreJobsOf h
  pub begun : (j : JobParts) → IsIn j h.jobs → j.id.epoch ≤ c.book.epoch
  pub made : c.book.made ≡ length (of_epoch c.book.epoch h.jobs)
  pub sound : (j : JobParts) → IsIn j h.jobs → holds c.book j.id ≡ true → IsSound c j

-- the dispatcher at this place of a desk, from 0, holds this claim
abbrev pub HoldsClaim : List Dispatcher → ℕ → LiveJob → Type 0
HoldsClaim desk place claim = slice_get desk place ≡ Some (Busy claim)

-- Each live claim is held by one of four dispatchers, and each claim of the book's epoch that is held is live: a dispatcher lets a claim
-- go when it ends, and only a restart leaves one that is stale. Each claim that is held is that of a job, and no two dispatchers hold one.
pub record AreClaims (h : History) (book : BookValue) (desk : List Dispatcher) : Type 0 where
  pub four : length desk ≡ 4
  pub live : (claim : LiveJob) → IsIn claim book.live → (place : ℕ) × HoldsClaim desk place claim
  pub current : (place : ℕ) (claim : LiveJob) → HoldsClaim desk place claim → claim.id.epoch ≡ book.epoch → IsIn claim book.live
  pub picked : (place : ℕ) (claim : LiveJob) → HoldsClaim desk place claim → (j : JobParts) × IsIn j h.jobs × (j.id ≡ claim.id)
  pub one : (a b : ℕ) (claim other : LiveJob) → HoldsClaim desk a claim → HoldsClaim desk b other → claim.id ≡ other.id → a ≡ b

-- ---- workers

-- the tables of a worker's task are those of inputs of its job
abbrev pub IsTaskOf : History → Option TaskValue → Type 0
IsTaskOf h None = Unit {0}
IsTaskOf h (Some t) = IsIn t.job h.jobs × ((p : Placed) → IsIn p t.received → IsIn p h.files × IsIn p.meta t.job.inputs)

-- the result is, table for table, the merge of its job's inputs
abbrev pub IsResultOf : History → JobResult → Type 0
IsResultOf h r = (j : JobParts) × IsIn j h.jobs × (r.job ≡ j.id) × IsMerge (tables_at h.files j.inputs) j r.tables

-- ---- followers

-- A later version is one of the history, and so is each table that has come for it. What is missing is listed there.
pub record IsTargetOf (h : History) (served : VersionValue) (to : PendingValue) : Type 0 where
  pub version : IsVersionOf h to.target
  pub later : served.number < to.target.number
  pub received : (p : Placed) → IsIn p to.received → IsIn p h.files
  pub missing : (f : FileMeta) → IsIn f to.missing → IsIn f to.target.files

-- the version that a follower serves is one of the history, with its tables, and so is the one that it is to move to
pub record IsFollowerOf (h : History) (f : FollowerValue) : Type 0 where
  pub version : IsVersionOf h f.served.version
  pub tables : (p : Placed) → IsIn p f.served.places → IsIn p h.files
  pub pending : IfSome f.pending (IsTargetOf h f.served.version)

-- ---- messages

-- what a message says was so when it was sent
abbrev pub IsKnown : History → Body → Type 0
IsKnown h (body.Job j) = IsIn j h.jobs
IsKnown h (body.Fetch number) = IsNumbered h number
IsKnown h (body.Table number bytes) = IsTableAt h number bytes
IsKnown h (body.Gone number) = IsNumbered h number
IsKnown h (body.Result r) = IsResultOf h r
IsKnown h (body.Ask number) = IsVersionNumber h number
IsKnown h (body.Edit e) = IsEditOf h e
IsKnown h (body.Base v) = IsVersionOf h v
IsKnown h (body.Current number) = IsVersionNumber h number

-- the bytes are those of a message that is known
abbrev pub IsSent : History → List ℕ → Type 0
IsSent h bytes = (m : Message) × IsSpelled bytes m × IsKnown h m.body

-- the indices of the workers, and of the followers
abbrev pub first_indices : List ℕ
first_indices = 1 ∷ 2 ∷ 3 ∷ 4 ∷ []

-- the tasks of the workers and the versions of the followers are of the history, and each message that was sent says what was so
pub record IsNetwork (h : History) (n : NetworkValue) : Type 0 where
  pub workers : map (λ w. w.index) n.workers ≡ first_indices
  pub tasks : (w : WorkerValue) → IsIn w n.workers → IsTaskOf h w.task
  pub followers : map (λ f. f.index) n.followers ≡ first_indices
  pub versions : (f : FollowerValue) → IsIn f n.followers → IsFollowerOf h f
  pub sent : (bytes : List ℕ) → IsIn bytes n.messages → IsSent h bytes

-- ---- the nodes

-- what every schedule keeps of its nodes
pub record IsHistory (h : History) (n : NodesValue) : Type 0 where
  pub files : AreFiles h n.core
  pub jobs : AreJobs h n.core
  pub claims : AreClaims h n.core.book n.desk
  pub network : IsNetwork h n.network

-- ---- the nodes, while the coordinator is down

-- The edits are the manifest's, and the numbers of these files were given. Each file of the last version, with the vault's table,
-- is one of them.
pub record AreFilesKept (h : History) (vault : VaultValue) : Type 0 where
  pub all : AreFilesOf h
  pub edits : h.edits ≡ read_edits vault.edits
  pub given : (p : Placed) → IsIn p h.files → p.meta.number < (manifest_version vault.edits).next_file
  pub served : (p : Placed) → IsIn p.meta (manifest_version vault.edits).files → IsAsRecorded p.meta p.table → get vault.tables p.meta.number ≡ Some p.table.bytes → IsIn p h.files

-- No job's epoch is to come yet, and the claims are those of the book with which the next epoch begins: none is live.
pub record IsDownHistory (h : History) (vault : VaultValue) (desk : List Dispatcher) (others : NetworkValue) : Type 0 where
  pub files : AreFilesKept h vault
  pub jobs : AreJobsOf h
  pub begun : (j : JobParts) → IsIn j h.jobs → j.id.epoch ≤ (manifest_version vault.edits).epoch
  pub claims : AreClaims h (new_book ((manifest_version vault.edits).epoch + 1)) desk
  pub network : IsNetwork h others

-- ---- either way

-- the history of a store whose coordinator is up, or down
abbrev pub IsHistoryBy : History → Option CoordValue → StoreValue → Type 0
IsHistoryBy h (Some c) s = IsHistory h (nodes_with c s)
IsHistoryBy h None s = IsDownHistory h s.seat.stored s.desk s.network

-- what every schedule keeps of a store
abbrev pub IsStoreHistory : History → StoreValue → Type 0
IsStoreHistory h s = IsHistoryBy h s.seat.core s
