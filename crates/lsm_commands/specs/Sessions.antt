-- What a store answers to a call, and what it holds then (LevelDB, db.h: Put, Delete, Write, Get, NewIterator, GetSnapshot, ReleaseSnapshot).
use Rattle.std.specs.Prelude.{◌≡◌, ℕ, ◌+◌, List, Some, length}
use Rattle.lsm_key.specs.declared.op.Op.{Op}
use Rattle.lsm_key.specs.Faults.{Refuses}
use Rattle.lsm_key.specs.Limits.{batch_fault}
use Rattle.lsm_coord.specs.declared.error.CoordError.TheVariants as error
use Rattle.lsm_coord.specs.declared.snapshot.Snapshot.{Snapshot}
use Rattle.lsm_coord.specs.Contract.Calls.{GetRefuses, ScanRefuses, release_fault, snapshot_fault}
use Rattle.lsm_coord.specs.Contract.Value.{CoordValue}
use Rattle.lsm_line.specs.declared.call.Call.{Call}
use Rattle.lsm_line.specs.declared.call.Call.TheVariants as call
use Rattle.lsm_store.specs.declared.error.StoreError.TheVariants as store
use Rattle.lsm_store.specs.Store.{Accepts, AddsSnapshot, DropsSnapshot, Holds, IsLatestSequence, Keeps, ReadsRange, ReadsValue, StoreFlushRefuses, Stores, WriteRefuses, stored_count}
use Rattle.lsm_commands.specs.declared.session.answer.Answer.{Answer}
use Rattle.lsm_commands.specs.declared.session.answer.Answer.TheVariants.{Wrote, Stored, Snapped, Released, Got, Scanned, Shown, Refused}

-- the operations have the sequences after those that the store held
abbrev pub HaveNextSequences : CoordValue → List Op → ℕ → ℕ → Type 0
HaveNextSequences old ops first last =
    (writes : List Op) (snapshots : List Snapshot) → Holds old writes snapshots
    → (first ≡ length writes + 1) × (last ≡ length writes + length ops)

-- What is answered to a call, by what the store held and holds: what was answered is so, and a refusal has a reason of that call and
-- loses nothing.
abbrev pub AnswersCall : CoordValue → Call → Answer → CoordValue → Type 0
AnswersCall old (call.Write ops) (Wrote first last) new = Accepts old ops new × HaveNextSequences old ops first last
AnswersCall old (call.Write ops) (Refused (store.Key e)) new = (batch_fault ops ≡ Some e) × (new ≡ old)
AnswersCall old (call.Write ops) (Refused (store.Coord e)) new = WriteRefuses old ops new (store.Coord e) × Keeps old new
AnswersCall old call.Flush (Stored last) new = Stores old new × (last ≡ stored_count new)
AnswersCall old call.Flush (Refused (store.Coord e)) new = StoreFlushRefuses old new e × Keeps old new
AnswersCall old call.Snap (Snapped id last) new = AddsSnapshot old id new × IsLatestSequence new last
AnswersCall old call.Snap (Refused (store.Coord e)) new = Refuses error.OutOfMemory (snapshot_fault old) e × (new ≡ old)
AnswersCall old (call.Release id) (Released which) new = (which ≡ id) × DropsSnapshot old id new
AnswersCall old (call.Release id) (Refused (store.Coord e)) new = (release_fault old id ≡ Some e) × (new ≡ old)
AnswersCall old (call.Get key at) (Got value) new = ReadsValue old key at value × (new ≡ old)
AnswersCall old (call.Get key at) (Refused (store.Coord e)) new = GetRefuses old key at e × (new ≡ old)
AnswersCall old (call.Scan range) (Scanned pairs) new = ReadsRange old range.lo range.hi range.at range.limit pairs × (new ≡ old)
AnswersCall old (call.Scan range) (Refused (store.Coord e)) new = ScanRefuses old range.at e × (new ≡ old)
AnswersCall old call.Show (Shown version) new =
    (version.number ≡ old.served.version.number) × (version.flushed ≡ old.served.version.flushed) × (version.files ≡ old.served.version.files) × (new ≡ old)
AnswersCall old call.Show (Refused (store.Coord error.OutOfMemory)) new = new ≡ old
AnswersCall old asked answer new = ⊥
