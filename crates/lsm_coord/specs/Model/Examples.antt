-- Runs of a new store, written out: what a reader can check by hand, and some that are not runs.
use Rattle.std.specs.Prelude.{ℕ, List, [], ◌∷◌, None, Some}
use Rattle.lsm_key.specs.declared.op.Op.TheVariants.{Put, Delete}
use Rattle.lsm_coord.specs.declared.snapshot.SnapId.{SnapId}
use Rattle.lsm_coord.specs.Model.Event as say
use Rattle.lsm_coord.specs.Model.Run.{RunOfNew}

-- texts of one letter or none, by their bytes
abbrev pub none : List ℕ
none = []

-- the text a
abbrev pub a : List ℕ
a = 97 ∷ []

-- the text b
abbrev pub b : List ℕ
b = 98 ∷ []

-- the text z
abbrev pub z : List ℕ
z = 122 ∷ []

-- the text 1
abbrev pub one : List ℕ
one = 49 ∷ []

-- the text 2
abbrev pub two : List ℕ
two = 50 ∷ []

-- the first snapshot of a new store
abbrev pub first_snapshot : SnapId
first_snapshot = record { epoch = 1; number = 1 }

-- a write is found after its flush
abbrev pub FlushedWriteIsFound : Type 0
FlushedWriteIsFound = RunOfNew (
    (say.Write (Put a one ∷ []), say.Wrote 1 1)
    ∷ (say.Flush, say.Flushed 2 1 1)
    ∷ (say.Get a None, say.Got (Some one))
    ∷ [])

-- a restart keeps what was written, and sequences go on after it
abbrev pub RestartKeepsWrites : Type 0
RestartKeepsWrites = RunOfNew (
    (say.Write (Put a one ∷ []), say.Wrote 1 1)
    ∷ (say.Restart say.Coordinator, say.Restarted 2 2 1)
    ∷ (say.Get a None, say.Got (Some one))
    ∷ (say.Write (Put b two ∷ []), say.Wrote 2 2)
    ∷ [])

-- what is frozen still is after a restart
abbrev pub FreezeOutlivesRestart : Type 0
FreezeOutlivesRestart = RunOfNew (
    (say.Write (Put a one ∷ []), say.Wrote 1 1)
    ∷ (say.Freeze, say.Froze 1)
    ∷ (say.Write (Put b two ∷ []), say.Wrote 2 2)
    ∷ (say.Restart say.Coordinator, say.Restarted 2 2 2)
    ∷ (say.Flush, say.Flushed 3 1 1)
    ∷ (say.Flush, say.Flushed 4 2 2)
    ∷ (say.Get b None, say.Got (Some two))
    ∷ [])

-- what the device refuses is neither written nor frozen, and its sequence is given again
abbrev pub RefusedWriteIsNotThere : Type 0
RefusedWriteIsNotThere = RunOfNew (
    (say.Write (Put a one ∷ []), say.Refused say.Device)
    ∷ (say.Get a None, say.Got None)
    ∷ (say.Write (Put b two ∷ []), say.Wrote 1 1)
    ∷ (say.Freeze, say.Refused say.Device)
    ∷ (say.Freeze, say.Froze 1)
    ∷ [])

-- in a batch the last write of a key counts, and a scan leaves out deleted keys
abbrev pub LastOfABatchCounts : Type 0
LastOfABatchCounts = RunOfNew (
    (say.Write (Put a one ∷ Put b two ∷ Delete a ∷ []), say.Wrote 1 3)
    ∷ (say.Get a None, say.Got None)
    ∷ (say.Scan none z None 10, say.Scanned ((b, two) ∷ []))
    ∷ [])

-- the frozen memtable is flushed before the active one
abbrev pub FrozenIsFlushedFirst : Type 0
FrozenIsFlushedFirst = RunOfNew (
    (say.Write (Put a one ∷ []), say.Wrote 1 1)
    ∷ (say.Freeze, say.Froze 1)
    ∷ (say.Freeze, say.Refused say.FrozenWaiting)
    ∷ (say.Write (Put b two ∷ []), say.Wrote 2 2)
    ∷ (say.Flush, say.Flushed 2 1 1)
    ∷ (say.Flush, say.Flushed 3 2 2)
    ∷ (say.Flush, say.Refused say.NothingToFlush)
    ∷ (say.Freeze, say.Refused say.NothingToFreeze)
    ∷ [])

-- what is not there is refused by name
abbrev pub AbsentIsRefused : Type 0
AbsentIsRefused = RunOfNew (
    (say.Snap, say.Snapped first_snapshot 0)
    ∷ (say.Release first_snapshot, say.Released first_snapshot)
    ∷ (say.Release first_snapshot, say.Refused say.NoSnapshot)
    ∷ (say.Get a (Some first_snapshot), say.Refused say.NoSnapshot)
    ∷ (say.Deliver 1, say.Refused say.NoMessage)
    ∷ (say.GiveUp 1, say.Refused say.NoClaim)
    ∷ (say.Trim 2, say.Refused say.BadFloor)
    ∷ [])

-- a restart that fails leaves the coordinator down, until one succeeds
abbrev pub DownUntilRestarted : Type 0
DownUntilRestarted = RunOfNew (
    (say.Write (Put a one ∷ []), say.Wrote 1 1)
    ∷ (say.Flush, say.Flushed 2 1 1)
    ∷ (say.Restart say.Coordinator, say.Refused say.Device)
    ∷ (say.Get a None, say.Refused say.Down)
    ∷ (say.Write (Put none one ∷ []), say.Refused say.EmptyKey)
    ∷ (say.Restart say.Coordinator, say.Restarted 2 3 1)
    ∷ (say.Get a None, say.Got (Some one))
    ∷ [])

-- a merge changes the files, and no answer
abbrev pub MergeKeepsAnswers : Type 0
MergeKeepsAnswers = RunOfNew (
    (say.Write (Put a one ∷ []), say.Wrote 1 1)
    ∷ (say.Flush, say.Flushed 2 1 1)
    ∷ (say.Snap, say.Snapped first_snapshot 1)
    ∷ (say.Write (Delete a ∷ []), say.Wrote 2 2)
    ∷ (say.Flush, say.Flushed 3 2 2)
    ∷ (say.Pick 1, say.Other)
    ∷ (say.Deliver 1, say.Other)
    ∷ (say.Deliver 2, say.Other)
    ∷ (say.Deliver 3, say.Other)
    ∷ (say.Deliver 4, say.Other)
    ∷ (say.Deliver 5, say.Other)
    ∷ (say.Deliver 6, say.Installed 4 (3 ∷ []))
    ∷ (say.Show say.Coordinator, say.Shown 4 2 (record { level = 1; file = 3 } ∷ []))
    ∷ (say.Get a (Some first_snapshot), say.Got (Some one))
    ∷ (say.Get a None, say.Got None)
    ∷ [])

-- a follower answers from its version, which may be behind, and begins again at version 0
abbrev pub FollowerLiesBehind : Type 0
FollowerLiesBehind = RunOfNew (
    (say.Write (Put a one ∷ []), say.Wrote 1 1)
    ∷ (say.Flush, say.Flushed 2 1 1)
    ∷ (say.Write (Put a two ∷ []), say.Wrote 2 2)
    ∷ (say.Flush, say.Flushed 3 2 2)
    ∷ (say.Ask 1, say.Other)
    ∷ (say.Deliver 1, say.Other)
    ∷ (say.Deliver 2, say.Advanced 1)
    ∷ (say.Ask 1, say.Other)
    ∷ (say.Deliver 3, say.Other)
    ∷ (say.Deliver 4, say.Other)
    ∷ (say.Deliver 5, say.Other)
    ∷ (say.Deliver 6, say.Advanced 2)
    ∷ (say.Read 1 a, say.ReadAt 2 (Some one))
    ∷ (say.Show (say.Follower 1), say.Shown 2 1 (record { level = 0; file = 1 } ∷ []))
    ∷ (say.Trim 3, say.Trimmed 3)
    ∷ (say.Read 1 a, say.ReadAt 2 (Some one))
    ∷ (say.Restart (say.Follower 1), say.Reset)
    ∷ (say.Read 1 a, say.ReadAt 0 None)
    ∷ [])

-- a claim is given back, a worker starts anew, and a snapshot of the next epoch has the next epoch's name
abbrev pub EpochsFollow : Type 0
EpochsFollow = RunOfNew (
    (say.Snap, say.Snapped first_snapshot 0)
    ∷ (say.Write (Put a one ∷ []), say.Wrote 1 1)
    ∷ (say.Flush, say.Flushed 2 1 1)
    ∷ (say.Pick 1, say.Other)
    ∷ (say.GiveUp 1, say.Other)
    ∷ (say.Restart (say.Worker 1), say.Reset)
    ∷ (say.Restart say.Coordinator, say.Restarted 2 3 1)
    ∷ (say.Snap, say.Snapped (record { epoch = 2; number = 1 }) 1)
    ∷ (say.Restart say.Coordinator, say.Restarted 3 4 1)
    ∷ [])

-- a refusal of another cause than the state: a full batch of none, a busy dispatcher, a claim of an epoch before, a device that fails
abbrev pub CausesBesideTheState : Type 0
CausesBesideTheState = RunOfNew (
    (say.Write [], say.Refused say.EmptyBatch)
    ∷ (say.Write (Put a one ∷ []), say.Wrote 1 1)
    ∷ (say.Flush, say.Refused say.Device)
    ∷ (say.Flush, say.Flushed 2 1 1)
    ∷ (say.Pick 1, say.Other)
    ∷ (say.Pick 1, say.Refused say.Busy)
    ∷ (say.Restart say.Coordinator, say.Restarted 2 3 1)
    ∷ (say.Deliver 6, say.Refused say.OldEpoch)
    ∷ (say.Trim 3, say.Refused say.OutOfMemory)
    ∷ (say.Trim 3, say.Trimmed 3)
    ∷ [])

-- A write is not lost while the coordinator runs.
abbrev pub LostWriteIsNoRun : Type 0
LostWriteIsNoRun = RunOfNew (
    (say.Write (Put a one ∷ []), say.Wrote 1 1)
    ∷ (say.Get a None, say.Got None)
    ∷ []) → ⊥

-- A flush leaves nothing out.
abbrev pub ShortFlushIsNoRun : Type 0
ShortFlushIsNoRun = RunOfNew (
    (say.Write (Put a one ∷ []), say.Wrote 1 1)
    ∷ (say.Flush, say.Flushed 2 0 1)
    ∷ []) → ⊥

-- A listing has the file of the flush.
abbrev pub EmptyListingIsNoRun : Type 0
EmptyListingIsNoRun = RunOfNew (
    (say.Write (Put a one ∷ []), say.Wrote 1 1)
    ∷ (say.Flush, say.Flushed 2 1 1)
    ∷ (say.Show say.Coordinator, say.Shown 2 1 [])
    ∷ []) → ⊥

-- A restart loses no write.
abbrev pub LostAtRestartIsNoRun : Type 0
LostAtRestartIsNoRun = RunOfNew (
    (say.Write (Put a one ∷ []), say.Wrote 1 1)
    ∷ (say.Restart say.Coordinator, say.Restarted 2 2 0)
    ∷ []) → ⊥

-- It keeps no snapshot.
abbrev pub SnapshotKeptIsNoRun : Type 0
SnapshotKeptIsNoRun = RunOfNew (
    (say.Write (Put a one ∷ []), say.Wrote 1 1)
    ∷ (say.Snap, say.Snapped first_snapshot 1)
    ∷ (say.Restart say.Coordinator, say.Restarted 2 2 1)
    ∷ (say.Get a (Some first_snapshot), say.Got (Some one))
    ∷ []) → ⊥

-- A write that the device refuses is not there.
abbrev pub KeptAfterDeviceIsNoRun : Type 0
KeptAfterDeviceIsNoRun = RunOfNew (
    (say.Write (Put a one ∷ []), say.Refused say.Device)
    ∷ (say.Get a None, say.Got (Some one))
    ∷ []) → ⊥

-- A refusal is given only if it holds.
abbrev pub UnforcedRefusalIsNoRun : Type 0
UnforcedRefusalIsNoRun = RunOfNew ((say.Write (Put a one ∷ []), say.Refused say.MemtableFull) ∷ []) → ⊥

-- A file number is not given twice.
abbrev pub FileGivenTwiceIsNoRun : Type 0
FileGivenTwiceIsNoRun = RunOfNew (
    (say.Write (Put a one ∷ []), say.Wrote 1 1)
    ∷ (say.Flush, say.Flushed 2 1 1)
    ∷ (say.Write (Put a two ∷ []), say.Wrote 2 2)
    ∷ (say.Flush, say.Flushed 3 2 1)
    ∷ []) → ⊥

-- A follower at an older version does not give a newer value.
abbrev pub NewerValueIsNoRun : Type 0
NewerValueIsNoRun = RunOfNew (
    (say.Write (Put a one ∷ []), say.Wrote 1 1)
    ∷ (say.Flush, say.Flushed 2 1 1)
    ∷ (say.Write (Put a two ∷ []), say.Wrote 2 2)
    ∷ (say.Flush, say.Flushed 3 2 2)
    ∷ (say.Deliver 2, say.Advanced 2)
    ∷ (say.Read 1 a, say.ReadAt 2 (Some two))
    ∷ []) → ⊥

-- A batch is accepted whole: its second write is found too.
abbrev pub SecondWriteLostIsNoRun : Type 0
SecondWriteLostIsNoRun = RunOfNew (
    (say.Write (Put a one ∷ Put b two ∷ []), say.Wrote 1 2)
    ∷ (say.Get b None, say.Got None)
    ∷ []) → ⊥

-- A listing has the files of earlier flushes too.
abbrev pub FileForgottenIsNoRun : Type 0
FileForgottenIsNoRun = RunOfNew (
    (say.Write (Put a one ∷ []), say.Wrote 1 1)
    ∷ (say.Flush, say.Flushed 2 1 1)
    ∷ (say.Write (Put b two ∷ []), say.Wrote 2 2)
    ∷ (say.Flush, say.Flushed 3 2 2)
    ∷ (say.Show say.Coordinator, say.Shown 3 2 (record { level = 0; file = 2 } ∷ []))
    ∷ []) → ⊥

-- A flush changes no read.
abbrev pub FlushLosesWriteIsNoRun : Type 0
FlushLosesWriteIsNoRun = RunOfNew (
    (say.Write (Put a one ∷ []), say.Wrote 1 1)
    ∷ (say.Flush, say.Flushed 2 1 1)
    ∷ (say.Get a None, say.Got None)
    ∷ []) → ⊥

-- An install takes some file away.
abbrev pub InstallOfNothingIsNoRun : Type 0
InstallOfNothingIsNoRun = RunOfNew ((say.Deliver 6, say.Installed 2 (1 ∷ [])) ∷ []) → ⊥

-- An install uses no file number again.
abbrev pub NumberUsedAgainIsNoRun : Type 0
NumberUsedAgainIsNoRun = RunOfNew (
    (say.Write (Put a one ∷ []), say.Wrote 1 1)
    ∷ (say.Flush, say.Flushed 2 1 1)
    ∷ (say.Deliver 6, say.Installed 3 (1 ∷ []))
    ∷ []) → ⊥

-- A follower moves to no version that is still to come.
abbrev pub LeapIsNoRun : Type 0
LeapIsNoRun = RunOfNew ((say.Deliver 2, say.Advanced 2) ∷ []) → ⊥

-- A follower moves to no version of before.
abbrev pub FallBackIsNoRun : Type 0
FallBackIsNoRun = RunOfNew ((say.Deliver 2, say.Advanced 0) ∷ []) → ⊥

-- A snapshot's name is not given twice.
abbrev pub NameGivenTwiceIsNoRun : Type 0
NameGivenTwiceIsNoRun = RunOfNew (
    (say.Snap, say.Snapped first_snapshot 0)
    ∷ (say.Snap, say.Snapped first_snapshot 0)
    ∷ []) → ⊥

-- A restart keeps what was flushed.
abbrev pub FlushedWriteIsLostIsNoRun : Type 0
FlushedWriteIsLostIsNoRun = RunOfNew (
    (say.Write (Put a one ∷ []), say.Wrote 1 1)
    ∷ (say.Flush, say.Flushed 2 1 1)
    ∷ (say.Restart say.Coordinator, say.Restarted 2 3 0)
    ∷ []) → ⊥

-- The floor does not fall.
abbrev pub FloorFallsIsNoRun : Type 0
FloorFallsIsNoRun = RunOfNew (
    (say.Restart say.Coordinator, say.Restarted 2 2 0)
    ∷ (say.Trim 1, say.Trimmed 1)
    ∷ []) → ⊥

-- A coordinator that is up does not say that it is down.
abbrev pub DownWhileUpIsNoRun : Type 0
DownWhileUpIsNoRun = RunOfNew ((say.Get a None, say.Refused say.Down) ∷ []) → ⊥

-- One that is down does not answer.
abbrev pub AnswerWhileDownIsNoRun : Type 0
AnswerWhileDownIsNoRun = RunOfNew (
    (say.Restart say.Coordinator, say.Refused say.Device)
    ∷ (say.Get a None, say.Got None)
    ∷ []) → ⊥
