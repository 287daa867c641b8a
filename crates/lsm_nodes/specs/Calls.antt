-- What each call of a shared coordinator does: all that the coordinator's own contract says of it, or nothing.
use Rattle.std.specs.Prelude.{◌≡◌, ◌⊎◌, ℕ, ◌+◌, ◌≤◌, List, [], ◌∷◌, ◌++◌, Option, None, Some, Result, Ok, Err, OnOk, OnErr, IfErr, IfOk, IfSome, Vec, length, map, max}
use Rattle.lsm_key.specs.declared.op.Op.{Op}
use Rattle.lsm_key.specs.Faults.{Refuses}
use Rattle.lsm_claim.specs.declared.job.LiveJob.{LiveJob}
use Rattle.lsm_msg.specs.declared.job.JobParts.{JobParts}
use Rattle.lsm_msg.specs.declared.job.JobResult.{JobResult}
use Rattle.lsm_versions.specs.Opening.{obsolete_tables}
use Rattle.lsm_coord.specs.declared.answer.ShownVersion.{ShownVersion}
use Rattle.lsm_coord.specs.declared.coord.flush.Flushed.{Flushed}
use Rattle.lsm_coord.specs.declared.coord.install.Install.{Install}
use Rattle.lsm_coord.specs.declared.error.CoordError.{CoordError}
use Rattle.lsm_coord.specs.declared.error.CoordError.TheVariants.{OutOfMemory}
use Rattle.lsm_coord.specs.declared.snapshot.SnapId.{SnapId}
use Rattle.lsm_coord.specs.Model.Changes.{IsIndex}
use Rattle.lsm_coord.specs.Model.Event.{Reply}
use Rattle.lsm_coord.specs.Model.Event as say
use Rattle.lsm_coord.specs.Model.State.{State}
use Rattle.lsm_coord.specs.Contract.Calls.{Adds, AppendRefuses, FlushRefuses, GetRefuses, IsFrozen, IsWritten, ScanRefuses, TrimRefuses, after_give_back, after_release, after_snapshot, flush_fault, freeze_fault, release_fault, snapshot_fault, trim_fault, with_floor, with_live_tables, write_fault}
use Rattle.lsm_coord.specs.Contract.Installing.{Became, HoldsSoundMerge, IsDone}
use Rattle.lsm_coord.specs.Contract.Picking.{IsPicked, PickRefuses, Picks}
use Rattle.lsm_coord.specs.Contract.Replies.{flush_reply, freeze_reply, get_reply, install_reply, pick_reply, refusal_of, release_reply, scan_reply, snapshot_reply, trim_reply, write_reply}
use Rattle.lsm_coord.specs.Contract.Shows.{Follows, Shows, place_of}
use Rattle.lsm_coord.specs.Contract.Sound.{IsSound, KeepsSound}
use Rattle.lsm_coord.specs.Contract.Value.{CoordValue, version_set}
use Rattle.lsm_nodes.specs.declared.exchange.Exchange.{Exchange}
use Rattle.lsm_nodes.specs.Histories.{SharedValue, WitnessedValue}
use Rattle.lsm_nodes.specs.Tallies.{TallyValue, after_record, record_at}

-- ---- what is recorded

-- nothing was done and nothing recorded
abbrev pub IsMissed : SharedValue → SharedValue → TallyValue → TallyValue → Type 0
IsMissed old new t u = (new ≡ old) × (u ≡ t)

-- the exchange is the history's last, with the version before it
abbrev pub Appends : SharedValue → Exchange → SharedValue → Type 0
Appends old exchange new = (w : WitnessedValue) × (w.exchange ≡ exchange) × (w.before ≡ old.coord.served) × (new.history ≡ old.history ++ w ∷ [])

-- and the last of the caller's own records
abbrev pub IsRecorded : SharedValue → SharedValue → TallyValue → TallyValue → Exchange → Type 0
IsRecorded old new t u exchange = Appends old exchange new × (u ≡ after_record t (record_at (length old.history + 1) exchange))

-- ---- writes, flushes and snapshots

-- all that is promised of a write
pub record Writes (old : CoordValue) (ops : List Op) (result : Result (ℕ × ℕ) CoordError) (new : CoordValue) : Type 0 where
  pub step : Follows old (say.Write ops) (write_reply result) new
  pub ok : OnOk result ((write_fault old ops ≡ None) × IsWritten old ops new)
  pub refused : IfErr result (λ e. AppendRefuses (write_fault old ops) old e new)
  pub sound : KeepsSound old new

-- all that is promised of a freeze
pub record Freezes (old : CoordValue) (result : Result ℕ CoordError) (new : CoordValue) : Type 0 where
  pub step : Follows old say.Freeze (freeze_reply result) new
  pub ok : OnOk result ((freeze_fault old ≡ None) × IsFrozen old new)
  pub refused : IfErr result (λ e. AppendRefuses (freeze_fault old) old e new)
  pub sound : KeepsSound old new

-- all that is promised of a flush
pub record Flushes (old : CoordValue) (result : Result Flushed CoordError) (new : CoordValue) : Type 0 where
  pub step : Follows old say.Flush (flush_reply result) new
  pub ok : OnOk result ((flush_fault old ≡ None) × Adds old new)
  pub refused : IfErr result (λ e. FlushRefuses old e new)
  pub failures : old.failures ≤ new.failures
  pub sound : KeepsSound old new

-- all that is promised of a snapshot that is made
pub record TakesSnapshot (old : CoordValue) (result : Result (SnapId × ℕ) CoordError) (new : CoordValue) : Type 0 where
  pub step : Follows old say.Snap (snapshot_reply result) new
  pub ok : OnOk result ((snapshot_fault old ≡ None) × (new ≡ after_snapshot old))
  pub err : OnErr result (new ≡ old)
  pub refused : IfErr result (Refuses OutOfMemory (snapshot_fault old))
  pub sound : (s : State) → Shows old s → KeepsSound old new

-- all that is promised of the release of a snapshot
pub record ReleasesSnapshot (old : CoordValue) (id : SnapId) (result : Result (Unit {0}) CoordError) (new : CoordValue) : Type 0 where
  pub step : Follows old (say.Release id) (release_reply id result) new
  pub ok : OnOk result ((release_fault old id ≡ None) × (new ≡ after_release old id))
  pub err : OnErr result (new ≡ old)
  pub refused : IfErr result (λ e. release_fault old id ≡ Some e)
  pub sound : KeepsSound old new

-- ---- reads: memory may run out for a copy of the answer too

-- all that is promised of a get
pub record Gets (old : CoordValue) (key : List ℕ) (at : Option SnapId) (result : Result (Option (List ℕ)) CoordError) (new : CoordValue) : Type 0 where
  pub step : Follows old (say.Get key at) (get_reply result) new
  pub same : new ≡ old
  pub refused : IfErr result (λ e. (e ≡ OutOfMemory) ⊎ GetRefuses old key at e)

-- all that is promised of a scan
pub record ScansKeys {Z : Type 0} (old : CoordValue) (lo hi : List ℕ) (at : Option SnapId) (limit : ℕ) (result : Result (Vec (List ℕ × List ℕ) Z) CoordError) (new : CoordValue) : Type 0 where
  pub step : Follows old (say.Scan lo hi at limit) (scan_reply result) new
  pub same : new ≡ old
  pub refused : IfErr result (λ e. (e ≡ OutOfMemory) ⊎ ScanRefuses old at e)

-- the result of a listing, as a reply of the model
abbrev pub shown_reply : Result ShownVersion CoordError → Reply
shown_reply (Ok v) = say.Shown v.number v.flushed (map place_of v.files)
shown_reply (Err e) = say.Refused (refusal_of e)

-- all that is promised of a listing
pub record ShowsVersion (old : CoordValue) (result : Result ShownVersion CoordError) (new : CoordValue) : Type 0 where
  pub step : Follows old (say.Show say.Coordinator) (shown_reply result) new
  pub same : new ≡ old
  pub number : IfOk result (λ v. v.number ≡ old.served.version.number)
  pub flushed : IfOk result (λ v. v.flushed ≡ old.served.version.flushed)
  pub files : IfOk result (λ v. v.files ≡ old.served.version.files)
  pub refused : IfErr result (λ e. e ≡ OutOfMemory)

-- ---- jobs

-- a job was picked and its claim given back: its number is used
abbrev pub PicksInVain : CoordValue → CoordValue → Type 0
PicksInVain old new = (claim : LiveJob) × (job : JobParts) × (picked : CoordValue) × IsPicked old claim job picked × (new ≡ after_give_back picked claim.id)

-- a refusal changes nothing, unless memory ran out for a copy of the job
pub record PicksJob (old : CoordValue) (result : Result (Option (LiveJob × JobParts)) CoordError) (new : CoordValue) : Type 0 where
  pub step : (dispatcher : ℕ) → IsIndex dispatcher → Follows old (say.Pick dispatcher) (pick_reply result) new
  pub ok : IfOk result (Picks old new)
  pub refused : IfErr result (λ e. (PickRefuses old e × (new ≡ old)) ⊎ ((e ≡ OutOfMemory) × PicksInVain old new))
  pub job : IfOk result (λ picked. IfSome picked (λ r. IsSound new r.1))
  pub sound : KeepsSound old new

-- all that is promised of an install; one that is done is a step if its result holds the merge of a sound job
pub record InstallsResult (old : CoordValue) (claim : LiveJob) (made : JobResult) (result : Install) (new : CoordValue) : Type 0 where
  pub became : Became old claim made result new
  pub failures : old.failures ≤ new.failures
  pub step : (message : ℕ) → (IsDone result → HoldsSoundMerge old claim.id made) → Follows old (say.Deliver message) (install_reply result) new
  pub sound : (IsDone result → HoldsSoundMerge old claim.id made) → KeepsSound old new

-- ---- trims: memory may run out for a copy of the answer too, and what was trimmed stays so

-- all that is promised of a trim
pub record Trims (old : CoordValue) (to : ℕ) (result : Result (ℕ × List ℕ) CoordError) (new : CoordValue) : Type 0 where
  pub step : Follows old (say.Trim to) (trim_reply result) new
  pub ok : OnOk result ((trim_fault old to ≡ None) × (new ≡ record (with_live_tables old to) { failures = new.failures }))
  pub floor : IfOk result (λ trimmed. trimmed.0 ≡ max old.floor to)
  pub removed : IfOk result (λ trimmed. trimmed.1 ≡ obsolete_tables (version_set (with_floor old to)))
  pub refused : IfErr result (λ e. TrimRefuses old to e new)
  pub failures : old.failures ≤ new.failures
  pub sound : KeepsSound old new
