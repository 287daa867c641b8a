-- What a store holds, and what its calls do to it, by the operations that it has accepted (LevelDB, db.h: Open, Put, Delete, Write, Get, GetSnapshot, ReleaseSnapshot, CompactRange).
use Rattle.std.specs.Prelude.{◌≡◌, ◌⊎◌, ℕ, Bool, true, false, ◌+◌, ◌<◌, ◌≤◌, List, [], ◌∷◌, ◌++◌, Option, None, Some, IsSome, filter, length, not}
use Rattle.std.specs.Option.{unwrap_or}
use Rattle.std.specs.FinMap as map
use Rattle.lsm_key.specs.declared.op.Op.{Op}
use Rattle.lsm_key.specs.Limits.{push_fault}
use Rattle.lsm_key.specs.Writes.{answer}
use Rattle.lsm_vault.specs.Stored.{VaultValue}
use Rattle.lsm_versions.specs.Retention.{IsListed}
use Rattle.lsm_coord.specs.declared.error.CoordError.{CoordError}
use Rattle.lsm_coord.specs.declared.error.CoordError.TheVariants as coord
use Rattle.lsm_coord.specs.declared.snapshot.SnapId.{SnapId}
use Rattle.lsm_coord.specs.declared.snapshot.Snapshot.{Snapshot}
use Rattle.lsm_pick.specs.After.{CompactPointersValue}
use Rattle.lsm_pick.specs.Due.{is_full}
use Rattle.lsm_coord.specs.Model.Range.{IsRange}
use Rattle.lsm_coord.specs.Model.State.{State, same_snapshot_id, snapshot_at}
use Rattle.lsm_coord.specs.Contract.Calls.{FlushRefuses, next_id, write_fault}
use Rattle.lsm_coord.specs.Contract.Picking.{NothingToCompact, OnlyTooLarge}
use Rattle.lsm_coord.specs.Contract.Seats.{ShowsDown}
use Rattle.lsm_coord.specs.Contract.Shows.{Shows}
use Rattle.lsm_coord.specs.Contract.Value.{CoordValue}
use Rattle.lsm_store.specs.Compacting.{CompactionRefusesAfter}
use Rattle.lsm_store.specs.declared.due.Due.{Due}
use Rattle.lsm_store.specs.declared.due.Due.TheVariants as due
use Rattle.lsm_store.specs.declared.error.StoreError.{StoreError}
use Rattle.lsm_store.specs.declared.error.StoreError.TheVariants.{Coord, Key}

-- ---- what is held

-- the store has accepted these operations, in this order, and these snapshots are live
pub record Holds (c : CoordValue) (writes : List Op) (snapshots : List Snapshot) : Type 0 where
  pub state : State
  pub shown : Shows c state
  pub writes_are : state.writes ≡ writes
  pub snapshots_are : state.snapshots ≡ snapshots

-- the vault has these operations, in this order
pub record HoldsStored (vault : VaultValue) (writes : List Op) : Type 0 where
  pub state : State
  pub shown : ShowsDown vault state
  pub writes_are : state.writes ≡ writes

-- how many operations are in tables
abbrev pub stored_count : CoordValue → ℕ
stored_count c = c.served.version.flushed

-- the sequence is that of the last operation
abbrev pub IsLatestSequence : CoordValue → ℕ → Type 0
IsLatestSequence c latest = (writes : List Op) (snapshots : List Snapshot) → Holds c writes snapshots → latest ≡ length writes

-- between two calls no job runs
pub record IsIdle (c : CoordValue) : Type 0 where
  pub live : c.book.live ≡ []

-- ---- changes

-- whatever the store held, it holds
abbrev pub Keeps : CoordValue → CoordValue → Type 0
Keeps old new = (writes : List Op) (snapshots : List Snapshot) → Holds old writes snapshots → Holds new writes snapshots

-- whatever it held, it holds with these operations after it
abbrev pub Accepts : CoordValue → List Op → CoordValue → Type 0
Accepts old ops new = (writes : List Op) (snapshots : List Snapshot) → Holds old writes snapshots → Holds new (writes ++ ops) snapshots

-- whatever it held, it holds, and all of it is in tables
abbrev pub Stores : CoordValue → CoordValue → Type 0
Stores old new = (writes : List Op) (snapshots : List Snapshot) → Holds old writes snapshots → Holds new writes snapshots × (stored_count new ≡ length writes)

-- whatever it held, it holds with one more snapshot, of the next name, at the last operation
abbrev pub AddsSnapshot : CoordValue → SnapId → CoordValue → Type 0
AddsSnapshot old id new =
    (writes : List Op) (snapshots : List Snapshot) → Holds old writes snapshots
    → (id ≡ next_id old) × Holds new writes (snapshots ++ record { id = id; at = length writes } ∷ [])

-- whatever it held, it holds without the snapshot of this name
abbrev pub DropsSnapshot : CoordValue → SnapId → CoordValue → Type 0
DropsSnapshot old id new =
    (writes : List Op) (snapshots : List Snapshot) → Holds old writes snapshots → Holds new writes (filter (λ live. not (same_snapshot_id live.id id)) snapshots)

-- ---- reads

-- how many operations a read sees: all, or those that there were when the snapshot was made
abbrev pub seen_count : List Op → List Snapshot → Option SnapId → ℕ
seen_count writes snapshots None = length writes
seen_count writes snapshots (Some id) = unwrap_or (snapshot_at snapshots id) 0

-- the snapshot of a read, if it names one, is live
abbrev pub CanRead : List Snapshot → Option SnapId → Type 0
CanRead snapshots None = Unit {0}
CanRead snapshots (Some id) = IsSome (snapshot_at snapshots id)

-- the value that the operations which a read sees leave of a key
abbrev pub ReadsValue : CoordValue → List ℕ → Option SnapId → Option (List ℕ) → Type 0
ReadsValue c key at value =
    (writes : List Op) (snapshots : List Snapshot) → Holds c writes snapshots
    → CanRead snapshots at × (value ≡ answer writes (seen_count writes snapshots at) key)

-- the first keys of a range that have a value, each with the value that these operations leave
abbrev pub ReadsRange : CoordValue → List ℕ → List ℕ → Option SnapId → ℕ → List (List ℕ × List ℕ) → Type 0
ReadsRange c lo hi at limit pairs =
    (writes : List Op) (snapshots : List Snapshot) → Holds c writes snapshots
    → CanRead snapshots at × IsRange (answer writes (seen_count writes snapshots at)) lo hi limit pairs

-- the coordinator refuses, for a reason of these
abbrev pub OfCoord : (CoordError → Type 0) → StoreError → Type 0
OfCoord reason (Coord e) = reason e
OfCoord reason (Key e) = ⊥

-- why the vault refuses to give its edits, or to sync its log: memory runs out, or the device fails
abbrev pub VaultRefuses : CoordValue → CoordValue → CoordError → Type 0
VaultRefuses old new coord.OutOfMemory = Unit {0}
VaultRefuses old new coord.Device = old.failures < new.failures
VaultRefuses old new e = ⊥

-- ---- flushes and compactions before a write

-- Why compactions stop: memory runs out, the device fails, or the numbers are exhausted for the one that is next in the order of some
-- pointers, where those before it have kept what the store held.
abbrev pub CompactRefuses : CoordValue → CoordValue → CoordError → Type 0
CompactRefuses old new coord.OutOfMemory = Unit {0}
CompactRefuses old new coord.Device = old.failures < new.failures
CompactRefuses old new coord.NumbersExhausted = (at : CoordValue) × Keeps old at × (pointers : Option CompactPointersValue) × CompactionRefusesAfter pointers at coord.NumbersExhausted
CompactRefuses old new e = ⊥

-- Why the memtables are not flushed: the numbers are exhausted, memory runs out or the device fails, for the first of them or, where
-- that one was flushed and what the store held was kept, for the second; neither is too empty for it.
abbrev pub StoreFlushRefuses : CoordValue → CoordValue → CoordError → Type 0
StoreFlushRefuses old new coord.NothingToFlush = ⊥
StoreFlushRefuses old new e = (at : CoordValue) × Keeps old at × (old.failures ≤ at.failures) × FlushRefuses at e new

-- why the memtable is not emptied: the flushes or the compactions after them are refused
abbrev pub RoomRefuses : CoordValue → CoordValue → CoordError → Type 0
RoomRefuses old new coord.NumbersExhausted = StoreFlushRefuses old new coord.NumbersExhausted ⊎ CompactRefuses old new coord.NumbersExhausted
RoomRefuses old new e = CompactRefuses old new e

-- ---- writes

-- a batch that is not refused at once: it has an operation, and there are sequences for it
abbrev pub CanWrite : CoordValue → List Op → Type 0
CanWrite c ops = (write_fault c ops ≡ None) ⊎ (write_fault c ops ≡ Some coord.MemtableFull)

-- Why a batch is refused: it is empty, or there are no sequences for it; otherwise memory may run out or the device may fail, and if
-- the memtable has to be flushed first, the numbers may be exhausted, by a flush or by a compaction.
abbrev pub WriteRefuses : CoordValue → List Op → CoordValue → StoreError → Type 0
WriteRefuses old ops new (Coord coord.EmptyBatch) = write_fault old ops ≡ Some coord.EmptyBatch
WriteRefuses old ops new (Coord coord.SequenceExhausted) = write_fault old ops ≡ Some coord.SequenceExhausted
WriteRefuses old ops new (Coord coord.OutOfMemory) = CanWrite old ops
WriteRefuses old ops new (Coord coord.Device) = CanWrite old ops × (old.failures < new.failures)
WriteRefuses old ops new (Coord coord.NumbersExhausted) = (write_fault old ops ≡ Some coord.MemtableFull) × RoomRefuses old new coord.NumbersExhausted
WriteRefuses old ops new e = ⊥

-- why an operation alone is refused: its key or its value is outside its limits, or what refuses a batch of it
abbrev pub OpRefuses : CoordValue → Op → CoordValue → StoreError → Type 0
OpRefuses old op new (Key e) = push_fault [] op ≡ Some e
OpRefuses old op new (Coord coord.OutOfMemory) = Unit {0}
OpRefuses old op new (Coord e) = (push_fault [] op ≡ None) × WriteRefuses old (op ∷ []) new (Coord e)

-- ---- flushes and compactions

-- What is due after compactions: no candidate is left, or none that is within the job limits, or as many compactions were made as
-- were asked for, each of which made a version.
abbrev pub IsDueAfter : CoordValue → ℕ → CoordValue → Due → Type 0
IsDueAfter old rounds new due.Nothing = (writes : List Op) (snapshots : List Snapshot) → Holds old writes snapshots → NothingToCompact new
IsDueAfter old rounds new due.TooLarge = OnlyTooLarge new
IsDueAfter old rounds new due.More = new.served.version.number ≡ old.served.version.number + rounds

-- ---- what calls leave of each other's work

-- the memtable and the last sequence stay, and the device's failures are counted on
pub record LeavesMemtable (old new : CoordValue) : Type 0 where
  pub active : new.active ≡ old.active
  pub last : new.last ≡ old.last
  pub counted : old.failures ≤ new.failures

-- the memtable is empty, and the last sequence stays
pub record EmptiesMemtable (old new : CoordValue) : Type 0 where
  pub active : new.active ≡ []
  pub last : new.last ≡ old.last

-- the frozen memtable is flushed, or the active one if none is frozen, unless both are empty; the last sequence stays
pub record FlushesNext (old new : CoordValue) : Type 0 where
  pub frozen : new.frozen ≡ None
  pub active : old.frozen ≡ None → new.active ≡ []
  pub last : new.last ≡ old.last

-- why the next memtable is not flushed, which is not that both are empty
abbrev pub FlushNextRefuses : CoordValue → CoordValue → CoordError → Type 0
FlushNextRefuses old new e = (e ≡ coord.NothingToFlush → ⊥) × FlushRefuses old e new

-- one compaction, which makes the next version; or none is due, and nothing has changed
abbrev pub CompactsNext : CoordValue → CoordValue → Bool → Type 0
CompactsNext old new true = new.served.version.number ≡ old.served.version.number + 1
CompactsNext old new false = (writes : List Op) (snapshots : List Snapshot) → Holds old writes snapshots → NothingToCompact old × (new ≡ old)

-- ---- what compactions let go, and what they leave due

-- The current version alone is served: the floor is there, no file is retired, and of the file numbers that were given the vault has
-- tables of this version's files alone.
pub record ServesCurrentAlone (c : CoordValue) : Type 0 where
  pub floor : c.floor ≡ c.served.version.number
  pub retired : c.retired ≡ []
  pub tables : (n : ℕ) → n < c.served.version.next_file → (IsListed c.served.version n → ⊥) → map.get c.stored.tables n ≡ None

-- if a version was made, it is served alone
abbrev pub LetsOthersGo : CoordValue → CoordValue → Type 0
LetsOthersGo old new = old.served.version.number < new.served.version.number → ServesCurrentAlone new

-- no compaction is due, or only such as exceed a job size limit
abbrev pub IsNoneDue : CoordValue → Type 0
IsNoneDue c = NothingToCompact c ⊎ OnlyTooLarge c

-- if a state is shown, none is due after it
abbrev pub LeavesNoneDue : CoordValue → CoordValue → Type 0
LeavesNoneDue old new = (writes : List Op) (snapshots : List Snapshot) → Holds old writes snapshots → IsNoneDue new

-- compactions are behind the writes: level 0 has as many files as it may have
abbrev pub IsBehind : CoordValue → Type 0
IsBehind c = is_full c.limits c.served.version.files ≡ true

-- a write that finds the memtable full, and compactions behind, leaves none due
abbrev pub CompactsIfBehind : CoordValue → List Op → CoordValue → Type 0
CompactsIfBehind old ops new = write_fault old ops ≡ Some coord.MemtableFull → IsBehind old → LeavesNoneDue old new

-- why the next compaction is not made
abbrev pub NextRefuses : CoordValue → CoordValue → CoordError → Type 0
NextRefuses old new coord.TooWide = OnlyTooLarge new
NextRefuses old new e = CompactRefuses old new e
