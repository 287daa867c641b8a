-- What is asked of a store and its nodes, and what is answered (LevelDB, db.h; RocksDB wiki: remote compaction, secondary instances).
use Rattle.std.specs.Prelude.{ℕ, List, Option}
use Rattle.lsm_key.specs.declared.op.Op.{Op}
use Rattle.lsm_coord.specs.Model.State.{Place}
use Rattle.lsm_coord.specs.declared.snapshot.SnapId.{SnapId}

-- workers and followers are numbered from 1
pub data Node : Type 0 where
  Coordinator : Node
  Worker : (index : ℕ) → Node
  Follower : (index : ℕ) → Node

-- a read is at the latest sequence if it names no snapshot
pub data Event : Type 0 where
  Write : (ops : List Op) → Event
  Freeze : Event
  Flush : Event
  Snap : Event
  Release : (id : SnapId) → Event
  Get : (key : List ℕ) (at : Option SnapId) → Event
  Scan : (lo hi : List ℕ) (at : Option SnapId) (limit : ℕ) → Event
  Read : (follower : ℕ) (key : List ℕ) → Event
  Show : (node : Node) → Event  -- a worker lists nothing, so no reply to that is allowed
  Deliver : (message : ℕ) → Event
  Pick : (dispatcher : ℕ) → Event
  GiveUp : (dispatcher : ℕ) → Event
  Ask : (follower : ℕ) → Event
  Trim : (number : ℕ) → Event
  Restart : (node : Node) → Event

-- why an event was refused
pub data Refusal : Type 0 where
  -- of a batch
  EmptyKey : Refusal
  KeyTooLong : Refusal
  ValueTooLong : Refusal
  BatchFull : Refusal
  -- of the coordinator
  BadManifest : Refusal
  MissingTable : Refusal
  BadLog : Refusal
  Device : Refusal
  SequenceExhausted : Refusal
  FrozenWaiting : Refusal
  NothingToFreeze : Refusal
  NothingToFlush : Refusal
  TooManySnapshots : Refusal
  NoSnapshot : Refusal
  WrongJob : Refusal
  BadResult : Refusal
  MemtableFull : Refusal
  EmptyBatch : Refusal
  BookFull : Refusal
  TooWide : Refusal
  BadFloor : Refusal
  NumbersExhausted : Refusal
  -- of the schedule of all nodes
  Down : Refusal
  Busy : Refusal
  NoClaim : Refusal
  OldEpoch : Refusal
  NoMessage : Refusal
  -- of anything that allocates
  OutOfMemory : Refusal

-- the answer to an event
pub data Reply : Type 0 where
  Wrote : (first last : ℕ) → Reply  -- the sequences of the operations
  Froze : (seq : ℕ) → Reply  -- the last sequence of the frozen memtable
  Flushed : (number seq file : ℕ) → Reply  -- the version, its flushed sequence, the new file
  Snapped : (id : SnapId) (seq : ℕ) → Reply
  Released : (id : SnapId) → Reply
  Got : (value : Option (List ℕ)) → Reply
  Scanned : (pairs : List (List ℕ × List ℕ)) → Reply
  ReadAt : (number : ℕ) (value : Option (List ℕ)) → Reply  -- the follower's version, and the value there
  Shown : (number seq : ℕ) (files : List Place) → Reply  -- the version, its flushed sequence and its files
  Installed : (number : ℕ) (files : List ℕ) → Reply  -- the version, and the files that a merge made
  Advanced : (number : ℕ) → Reply  -- the version that a follower has come to
  Trimmed : (floor : ℕ) → Reply
  Restarted : (epoch number last : ℕ) → Reply  -- of the coordinator: its epoch, version and last sequence
  Reset : Reply  -- of a worker or a follower
  Refused : (why : Refusal) → Reply
  Other : Reply  -- says nothing about the state
