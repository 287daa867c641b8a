-- What each call of the coordinator refuses and does, on the value that contracts see (LevelDB, db_impl.cc: Write, CompactMemTable, Get, GetSnapshot, RemoveObsoleteFiles).
use Rattle.std.specs.Prelude.{◌≡◌, ℕ, ◌+◌, ◌<◌, ◌≤◌, not, List, ◌++◌, [], ◌∷◌, Option, None, Some, IsSome, MatchOption, length, filter, max, sum_by, is_none, is_some, nat_eq, nat_lt, nat_le, ◌&&◌, ◌||◌, ◌⊎◌, if◌then◌else◌}
use Rattle.std.specs.FinMap as map
use Rattle.std.specs.List.Sorted.{IsPermutation}
use Rattle.lsm_key.specs.declared.entry.Entry.{Entry}
use Rattle.lsm_key.specs.declared.op.Op.{Op}
use Rattle.lsm_key.specs.declared.limits.TheConstants.{MAX_MEMTABLE_WEIGHT, MAX_NUMBER, MAX_SNAPSHOTS}
use Rattle.lsm_key.specs.declared.seq.TheConstants.Seq as seq
use Rattle.lsm_key.specs.Sets.{IsIn}
use Rattle.lsm_key.specs.Limits.{total_weight, entry_weight}
use Rattle.lsm_key.specs.Places.{entries_after}
use Rattle.lsm_key.specs.Writes.{answer}
use Rattle.lsm_claim.specs.declared.ending.Ending.TheVariants.{Returned}
use Rattle.lsm_claim.specs.declared.job.JobId.{JobId}
use Rattle.lsm_claim.specs.Book.{after_settling}
use Rattle.lsm_table.specs.Tables.{IsTable, Opened, target_of}
use Rattle.lsm_edit.specs.declared.file.FileMeta.{FileMeta}
use Rattle.lsm_edit.specs.declared.log_record.LogRecord.TheVariants as logged
use Rattle.lsm_edit.specs.declared.edit.Edit.{Edit}
use Rattle.lsm_edit.specs.Edit.{IsSpelledEdit}
use Rattle.lsm_edit.specs.Next.{flush_edit}
use Rattle.lsm_edit.specs.Version.{apply_fault}
use Rattle.lsm_msg.specs.Installs.{with_flushed}
use Rattle.lsm_versions.specs.Kept.{MayHavePutSome, StaysBelow}
use Rattle.lsm_versions.specs.Opening.{MayHaveLost, is_live}
use Rattle.lsm_versions.specs.Retention.{kept_from}
use Rattle.lsm_coord.specs.declared.error.CoordError.{CoordError}
use Rattle.lsm_coord.specs.declared.error.CoordError.TheVariants.{EmptyBatch, SequenceExhausted, MemtableFull, FrozenWaiting, NothingToFreeze, NothingToFlush, TooManySnapshots, NoSnapshot, BadFloor, NumbersExhausted, OutOfMemory, Device}
use Rattle.lsm_coord.specs.declared.frozen.Frozen.{Frozen}
use Rattle.lsm_coord.specs.declared.snapshot.SnapId.{SnapId}
use Rattle.lsm_coord.specs.declared.snapshot.Snapshot.{Snapshot}
use Rattle.lsm_coord.specs.Model.State.{State, same_snapshot_id, snapshot_at}
use Rattle.lsm_coord.specs.Model.Range.{IsRange}
use Rattle.lsm_coord.specs.Contract.Logs.{MayCut, with_logged}
use Rattle.lsm_coord.specs.Contract.Value.{CoordValue, version_set}
use Rattle.lsm_coord.specs.Contract.Shows.{Shows}

-- ---- writes

-- why a batch is not applied: the first reason that holds
abbrev pub write_fault : CoordValue → List Op → Option CoordError
write_fault c ops =
    if nat_eq (length ops) 0 then Some EmptyBatch
    else if nat_lt seq.MAX (c.last + length ops) then Some SequenceExhausted
    else if nat_lt MAX_MEMTABLE_WEIGHT (sum_by entry_weight c.active + total_weight ops) then Some MemtableFull
    else None

-- the entries of the batch are in the active memtable, at the next sequences, and the batch is in the log
pub record IsWritten (old : CoordValue) (ops : List Op) (new : CoordValue) : Type 0 where
  pub active : IsPermutation (old.active ++ entries_after old.last ops) new.active
  pub rest : new ≡ record old { active = new.active; stored = with_logged old.stored (logged.Write (old.last + 1) ops); last = old.last + length ops; failures = new.failures }
  pub counted : old.failures ≤ new.failures

-- why nothing is frozen: the first reason that holds
abbrev pub freeze_fault : CoordValue → Option CoordError
freeze_fault c =
    if is_some c.frozen then Some FrozenWaiting
    else if nat_eq (length c.active) 0 then Some NothingToFreeze
    else None

-- the active memtable is frozen, a new one is empty, and the freeze is in the log
abbrev pub after_freezing : CoordValue → CoordValue
after_freezing c = record c { active = []; frozen = Some (record { memtable = c.active; end = c.last }); stored = with_logged c.stored (logged.Freeze c.last) }

-- so it is after a freeze
pub record IsFrozen (old new : CoordValue) : Type 0 where
  pub rest : new ≡ record (after_freezing old) { failures = new.failures }
  pub counted : old.failures ≤ new.failures

-- ---- the vault

-- the same, but that its device may have failed
pub record MayHaveFailed (old new : CoordValue) : Type 0 where
  pub rest : new ≡ record old { failures = new.failures }
  pub counted : old.failures ≤ new.failures

-- why nothing is written or frozen, and what is left: the first reason that holds; or memory ran out, or the log was refused
abbrev pub AppendRefuses : Option CoordError → CoordValue → CoordError → CoordValue → Type 0
AppendRefuses fault old OutOfMemory new = (fault ≡ None) × MayHaveFailed old new
AppendRefuses fault old Device new = (fault ≡ None) × MayHaveFailed old new × (old.failures < new.failures)
AppendRefuses fault old e new = (fault ≡ Some e) × (new ≡ old)

-- the same, but that the vault may have some of the tables that may be put, under numbers that no file has been given yet, and its device may have failed
pub record MayHaveStored (MayPut : ℕ → List ℕ → Type 0) (old new : CoordValue) : Type 0 where
  pub rest : new ≡ record old { stored = record old.stored { tables = new.stored.tables }; failures = new.failures }
  pub below : StaysBelow old.served.version.next_file old.stored.tables new.stored.tables
  pub put : MayHavePutSome MayPut old.stored.tables new.stored.tables
  pub counted : old.failures ≤ new.failures

-- the same, and its device has failed
abbrev pub HasFailed : (ℕ → List ℕ → Type 0) → CoordValue → CoordValue → Type 0
HasFailed MayPut old new = MayHaveStored MayPut old new × (old.failures < new.failures)

-- ---- flushes

-- why nothing is flushed: the first reason that holds
abbrev pub flush_fault : CoordValue → Option CoordError
flush_fault c =
    if is_none c.frozen && nat_eq (length c.active) 0 then Some NothingToFlush
    else if nat_le MAX_NUMBER c.served.version.number || nat_le MAX_NUMBER c.served.version.next_file then Some NumbersExhausted
    else None

-- a flush takes the frozen memtable, or the active one if none is frozen
abbrev pub flush_source_of : List Entry → ℕ → Option Frozen → Frozen
flush_source_of active last None = record { memtable = active; end = last }
flush_source_of active last (Some f) = f

-- what a flush of this store takes: the frozen memtable with its end, or the active one with the last sequence
abbrev pub flush_source : CoordValue → Frozen
flush_source c = flush_source_of c.active c.last c.frozen

-- the active memtable after it: a new one, if it was taken
abbrev pub active_after : List Entry → Option Frozen → List Entry
active_after active None = []
active_after active (Some f) = active

-- the memtable that a flush takes is gone
abbrev pub without_flush_source : CoordValue → CoordValue
without_flush_source c = record c { active = active_after c.active c.frozen; frozen = None }

-- The edit of the flush applies and is the last of the manifest, the version after it has the table's file, which is searched
-- first, the vault has the table, and the memtable that was taken is gone, from the log too unless a cut was refused.
pub record AddsTable (old : CoordValue) (file : FileMeta) (table : Opened) (new : CoordValue) : Type 0 where
  pub edit : Edit
  pub edit_is : edit ≡ flush_edit old.served.version (flush_source old).end file
  pub applies : apply_fault old.served.version edit ≡ None
  pub text : List ℕ
  pub spelled : IsSpelledEdit text edit
  pub new_is : new ≡ record (without_flush_source old) {
    served = with_flushed old.served (flush_source old).end file table;
    stored = record { edits = old.stored.edits ++ text ∷ []; tables = map.insert old.stored.tables file.number table.bytes; log = new.stored.log };
    failures = new.failures;
  }
  pub cut : MayCut (flush_source old).end old.stored.log new.stored.log
  pub counted : old.failures ≤ new.failures

-- one file more, of a table with exactly the entries of the memtable that was taken, its blocks cut at the store's target
abbrev pub Adds : CoordValue → CoordValue → Type 0
Adds old new = (file : FileMeta) × (table : Opened) × (table.entries ≡ (flush_source old).memtable) × AddsTable old file table new × (target_of table.bytes ≡ old.limits.block)

-- the table of the memtable that a flush takes, its blocks cut at the store's target, and the number that a flush gives it: the next file number
pub record IsFlushTable (c : CoordValue) (n : ℕ) (bytes : List ℕ) : Type 0 where
  pub number : n ≡ c.served.version.next_file
  pub table : IsTable bytes (flush_source c).memtable
  pub cut : target_of bytes ≡ c.limits.block

-- why nothing is flushed, and what is left: nothing has changed, unless memory ran out or the device failed after the table was put
abbrev pub FlushRefuses : CoordValue → CoordError → CoordValue → Type 0
FlushRefuses old OutOfMemory new = (flush_fault old ≡ None) × MayHaveStored (IsFlushTable old) old new
FlushRefuses old Device new = (flush_fault old ≡ None) × HasFailed (IsFlushTable old) old new
FlushRefuses old e new = (flush_fault old ≡ Some e) × (new ≡ old)

-- ---- snapshots

-- why no snapshot is made: the first reason that holds
abbrev pub snapshot_fault : CoordValue → Option CoordError
snapshot_fault c =
    if nat_le MAX_SNAPSHOTS (length c.snapshots) then Some TooManySnapshots
    else if nat_le MAX_NUMBER c.made then Some NumbersExhausted
    else None

-- the name of the next snapshot
abbrev pub next_id : CoordValue → SnapId
next_id c = record { epoch = c.served.version.epoch; number = c.made + 1 }

-- one more snapshot, of the latest sequence
abbrev pub after_snapshot : CoordValue → CoordValue
after_snapshot c = record c { snapshots = c.snapshots ++ record { id = next_id c; at = c.last } ∷ []; made = c.made + 1 }

-- a snapshot that is not live can't be released
abbrev pub release_fault : CoordValue → SnapId → Option CoordError
release_fault c id = if is_none (snapshot_at c.snapshots id) then Some NoSnapshot else None

-- all snapshots except this one
abbrev pub after_release : CoordValue → SnapId → CoordValue
after_release c id = record c { snapshots = filter (λ live. not (same_snapshot_id live.id id)) c.snapshots }

-- ---- trims

-- the floor is at most the current version
abbrev pub trim_fault : CoordValue → ℕ → Option CoordError
trim_fault c n = if nat_lt c.served.version.number n then Some BadFloor else None

-- the floor rises, and never falls; the retired files that no version from it on lists are let go
abbrev pub with_floor : CoordValue → ℕ → CoordValue
with_floor c n = record c { floor = max c.floor n; retired = kept_from (max c.floor n) c.retired }

-- and the vault has the tables of live files alone
abbrev pub with_live_tables : CoordValue → ℕ → CoordValue
with_live_tables c n = record (with_floor c n) { stored = record c.stored { tables = map.retain_keys c.stored.tables (is_live (version_set (with_floor c n))) } }

-- the floor has risen, and some tables of files that are not live may be gone
pub record MayHaveTrimmed (old : CoordValue) (n : ℕ) (new : CoordValue) : Type 0 where
  pub rest : new ≡ record (with_floor old n) { stored = record old.stored { tables = new.stored.tables }; failures = new.failures }
  pub lost : MayHaveLost (is_live (version_set (with_floor old n))) old.stored.tables new.stored.tables
  pub counted : old.failures ≤ new.failures

-- why tables are left that are not needed, and what has changed
abbrev pub TrimRefuses : CoordValue → ℕ → CoordError → CoordValue → Type 0
TrimRefuses old n OutOfMemory new = (trim_fault old n ≡ None) × MayHaveTrimmed old n new
TrimRefuses old n Device new = (trim_fault old n ≡ None) × MayHaveTrimmed old n new × (old.failures < new.failures)
TrimRefuses old n e new = (trim_fault old n ≡ Some e) × (new ≡ old)

-- ---- claims

-- a claim ends without a result
abbrev pub after_give_back : CoordValue → JobId → CoordValue
after_give_back c id = record c { book = after_settling c.book id Returned }

-- ---- reads

-- the sequence of a read: the last one, or that of a live snapshot
abbrev pub point_of : CoordValue → Option SnapId → Option ℕ
point_of c None = Some c.last
point_of c (Some id) = snapshot_at c.snapshots id

-- the latest sequence, or a live snapshot's
abbrev pub IsPoint : CoordValue → ℕ → Type 0
IsPoint c point = (point ≡ c.last) ⊎ ((x : Snapshot) × IsIn x c.snapshots × (x.at ≡ point))

-- the value of a key at a sequence, in every state that is shown
abbrev pub Answers : CoordValue → ℕ → List ℕ → Option (List ℕ) → Type 0
Answers c point key value = (s : State) → Shows c s → value ≡ answer s.writes point key

-- the key has a value at a sequence, in every state that is shown
abbrev pub HasValue : CoordValue → ℕ → List ℕ → Type 0
HasValue c point key = (s : State) → Shows c s → IsSome (answer s.writes point key)

-- a get is refused if its snapshot does not exist, or if there is a value to copy and memory runs out
abbrev pub GetRefuses : CoordValue → List ℕ → Option SnapId → CoordError → Type 0
GetRefuses c key at e = MatchOption (point_of c at) (e ≡ NoSnapshot) (λ point. (e ≡ OutOfMemory) × HasValue c point key)

-- a scan is refused if its snapshot does not exist, or if memory runs out
abbrev pub ScanRefuses : CoordValue → Option SnapId → CoordError → Type 0
ScanRefuses c at e = MatchOption (point_of c at) (e ≡ NoSnapshot) (λ point. e ≡ OutOfMemory)

-- the pairs of a scan at a sequence, in every state that is shown
abbrev pub Scans : CoordValue → ℕ → List ℕ → List ℕ → ℕ → List (List ℕ × List ℕ) → Type 0
Scans c point lo hi limit pairs = (s : State) → Shows c s → IsRange (answer s.writes point) lo hi limit pairs
