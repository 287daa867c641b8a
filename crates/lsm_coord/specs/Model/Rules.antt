-- Which refusals a state forces, and which have another cause (LevelDB, db.h: what each call may answer).
use Rattle.std.specs.Prelude.{◌≡◌, ℕ, ◌+◌, ◌^◌, ◌<◌, List, Option, None, Some, length, true, false, nat_lt, nat_le, nat_eq, ◌||◌, ◌&&◌, if◌then◌else◌, is_none, is_some, ◌⊎◌}
use Rattle.std.specs.Option.{option_or, option_map}
use Rattle.lsm_key.specs.declared.op.Op.{Op}
use Rattle.lsm_key.specs.declared.batch.KeyError.{KeyError}
use Rattle.lsm_key.specs.declared.batch.KeyError.TheVariants as key_error
use Rattle.lsm_key.specs.declared.limits.TheConstants.{MAX_NUMBER, MAX_MEMTABLE_WEIGHT, MAX_SNAPSHOTS}
use Rattle.lsm_key.specs.declared.seq.TheConstants.Seq as seq
use Rattle.lsm_key.specs.Limits.{batch_fault, total_weight}
use Rattle.lsm_coord.specs.Model.State.{State, last_seq, current, last_flushed, active, snapshot_at}
use Rattle.lsm_coord.specs.declared.snapshot.SnapId.{SnapId}
use Rattle.lsm_coord.specs.Model.Event.{Event, Refusal, Node}
use Rattle.lsm_coord.specs.Model.Event as say

-- a merge makes fewer files
abbrev pub MAX_OUTPUTS : ℕ
MAX_OUTPUTS = 2 ^ 32

-- a batch is refused as its first operation that could not be pushed
abbrev pub key_refusal : KeyError → Refusal
key_refusal key_error.EmptyKey = say.EmptyKey
key_refusal key_error.KeyTooLong = say.KeyTooLong
key_refusal key_error.ValueTooLong = say.ValueTooLong
key_refusal key_error.BatchFull = say.BatchFull
key_refusal key_error.OutOfMemory = say.OutOfMemory

-- a coordinator that is down answers Down in place of everything else
abbrev pub unless_down : State → Option Refusal → Option Refusal
unless_down s why = if s.up then why else Some say.Down

-- a batch must have an operation, and there must be sequences and room in the memtable for it
abbrev pub write_refusal : State → List Op → Option Refusal
write_refusal s ops =
    if nat_eq (length ops) 0 then Some say.EmptyBatch
    else if nat_lt seq.MAX (last_seq s + length ops) then Some say.SequenceExhausted
    else if nat_lt MAX_MEMTABLE_WEIGHT (total_weight (active s) + total_weight ops) then Some say.MemtableFull
    else None

-- one memtable is frozen at a time, and no empty one
abbrev pub freeze_refusal : State → Option Refusal
freeze_refusal s =
    if is_some s.frozen then Some say.FrozenWaiting
    else if nat_eq (last_seq s) (last_flushed s) then Some say.NothingToFreeze
    else None

-- a flush gives the next version and the next file their numbers
abbrev pub flush_refusal : State → Option Refusal
flush_refusal s =
    if is_none s.frozen && nat_eq (last_seq s) (last_flushed s) then Some say.NothingToFlush
    else if nat_lt MAX_NUMBER (length s.versions) || nat_lt MAX_NUMBER (s.next_file + 1) then Some say.NumbersExhausted
    else None

-- the number of live snapshots is limited
abbrev pub snapshot_refusal : State → Option Refusal
snapshot_refusal s =
    if nat_le MAX_SNAPSHOTS (length s.snapshots) then Some say.TooManySnapshots
    else if nat_lt MAX_NUMBER (s.made + 1) then Some say.NumbersExhausted
    else None

-- the snapshot must be live
abbrev pub release_refusal : State → SnapId → Option Refusal
release_refusal s id = if is_none (snapshot_at s.snapshots id) then Some say.NoSnapshot else None

-- a read of the latest names no snapshot that may be missing
abbrev pub read_refusal : State → Option SnapId → Option Refusal
read_refusal s None = None
read_refusal s (Some id) = release_refusal s id

-- the floor is at most the current version
abbrev pub trim_refusal : State → ℕ → Option Refusal
trim_refusal s n = if nat_lt (current s) n then Some say.BadFloor else None

-- a restart gives the next epoch and the next version their numbers
abbrev pub restart_refusal : State → Option Refusal
restart_refusal s = if nat_lt MAX_NUMBER (s.epoch + 1) || nat_lt MAX_NUMBER (length s.versions) then Some say.NumbersExhausted else None

-- the refusal that the state forces on an event: of those that hold, the first in order
abbrev pub refusal : State → Event → Option Refusal
refusal s (say.Write ops) = option_or (option_map key_refusal (batch_fault ops)) (unless_down s (write_refusal s ops))
refusal s say.Freeze = unless_down s (freeze_refusal s)
refusal s say.Flush = unless_down s (flush_refusal s)
refusal s say.Snap = unless_down s (snapshot_refusal s)
refusal s (say.Release id) = unless_down s (release_refusal s id)
refusal s (say.Get key at) = unless_down s (read_refusal s at)
refusal s (say.Scan lo hi at limit) = unless_down s (read_refusal s at)
refusal s (say.Read follower key) = None
refusal s (say.Show say.Coordinator) = unless_down s None
refusal s (say.Show (say.Worker i)) = None
refusal s (say.Show (say.Follower i)) = None
refusal s (say.Deliver m) = None
refusal s (say.Pick d) = unless_down s None
refusal s (say.GiveUp d) = unless_down s None
refusal s (say.Ask i) = None
refusal s (say.Trim n) = unless_down s (trim_refusal s n)
refusal s (say.Restart say.Coordinator) = restart_refusal s
refusal s (say.Restart (say.Worker i)) = None
refusal s (say.Restart (say.Follower i)) = None

-- a number that an install would issue, or the next file number after it, exceeds its limit
abbrev pub CannotNumber : State → Type 0
CannotNumber s = (MAX_NUMBER < length s.versions) ⊎ ((outputs : ℕ) × (outputs < MAX_OUTPUTS) × (MAX_NUMBER < s.next_file + outputs))

-- refusals whose cause is not in the state: the vault, claims, messages, jobs
abbrev pub MayRefuse : State → Event → Refusal → Type 0
MayRefuse s (say.Write ops) say.Device = Unit {0}
MayRefuse s say.Freeze say.Device = Unit {0}
MayRefuse s say.Flush say.Device = Unit {0}
MayRefuse s (say.Trim n) say.Device = Unit {0}
MayRefuse s (say.Deliver m) say.NoMessage = Unit {0}
MayRefuse s (say.Deliver m) say.Down = s.up ≡ false
MayRefuse s (say.Deliver m) say.NoClaim = s.up ≡ true
MayRefuse s (say.Deliver m) say.OldEpoch = s.up ≡ true
MayRefuse s (say.Deliver m) say.WrongJob = s.up ≡ true
MayRefuse s (say.Deliver m) say.BadResult = s.up ≡ true
MayRefuse s (say.Deliver m) say.NumbersExhausted = (s.up ≡ true) × CannotNumber s
MayRefuse s (say.Deliver m) say.Device = s.up ≡ true
MayRefuse s (say.Pick d) say.Busy = Unit {0}
MayRefuse s (say.Pick d) say.BookFull = Unit {0}
MayRefuse s (say.Pick d) say.TooWide = Unit {0}
MayRefuse s (say.Pick d) say.NumbersExhausted = Unit {0}
MayRefuse s (say.GiveUp d) say.NoClaim = Unit {0}
MayRefuse s event why = ⊥

-- When a refusal may be given: the forced one, or if none is forced one of another cause. Memory may run out anywhere,
-- and the vault may fail in a restart before its numbers are known.
abbrev pub IsAllowed : State → Event → Refusal → Type 0
IsAllowed s event say.OutOfMemory = Unit {0}
IsAllowed s (say.Restart say.Coordinator) say.Device = Unit {0}
IsAllowed s event why = (refusal s event ≡ Some why) ⊎ ((refusal s event ≡ None) × MayRefuse s event why)
