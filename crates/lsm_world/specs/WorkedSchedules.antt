-- Schedules of a new store, written out, in which each event comes, with each reply that is no refusal: what a reader can check by hand
-- (RocksDB wiki, Remote Compaction; Read-only and secondary instances).
use Rattle.std.specs.Prelude.{ℕ, List, [], ◌∷◌, None, Some}
use Rattle.lsm_key.specs.declared.op.Op.TheVariants.{Put, Delete}
use Rattle.lsm_edit.specs.declared.file.FileMeta.{FileMeta}
use Rattle.lsm_coord.specs.Model.Examples.{a, z, one, two, none, first_snapshot}
use Rattle.lsm_coord.specs.Model.Run.{RunOfNew}
use Rattle.lsm_world.specs.declared.event.Event.{Event}
use Rattle.lsm_world.specs.declared.event.Event.TheVariants as event
use Rattle.lsm_world.specs.declared.reply.PickedJob.{PickedJob}
use Rattle.lsm_world.specs.declared.reply.Reply.{Reply}
use Rattle.lsm_world.specs.declared.reply.Reply.TheVariants as reply
use Rattle.lsm_world.specs.declared.reply.Sent.TheVariants as sent
use Rattle.lsm_world.specs.Schedules.{model_steps}

-- the events, each with its reply, are a run of a new store
abbrev pub IsWorked : List (Event × Reply) → Type 0
IsWorked steps = RunOfNew (model_steps steps)

-- a job of level 0
abbrev pub picked_job : ℕ → ℕ → List ℕ → PickedJob
picked_job epoch number inputs = record { id = record { epoch = epoch; number = number }; level = 0; inputs = inputs }

-- the file of the first flush
abbrev pub first_file : FileMeta
first_file = record { number = 1; level = 0; smallest = a; largest = a; bytes = 48; entries = 1 }

-- the file that a merge of the first two made
abbrev pub third_file : FileMeta
third_file = record { number = 3; level = 1; smallest = a; largest = a; bytes = 48; entries = 1 }

-- each call of a coordinator, and the restarts
abbrev pub EachCallAnswers : Type 0
EachCallAnswers = IsWorked (
    (event.Scan (record { lo = none; hi = z; at = None; limit = 2 }), reply.Scanned [])
    ∷ (event.Write (Put a one ∷ []), reply.Wrote 1 1)
    ∷ (event.Freeze, reply.Froze 1)
    ∷ (event.Flush, reply.Flushed (record { number = 2; seq = 1; file = 1 }))
    ∷ (event.Snap, reply.Snapped first_snapshot 1)
    ∷ (event.Write (Delete a ∷ []), reply.Wrote 2 2)
    ∷ (event.Get a (Some first_snapshot), reply.Got (Some one))
    ∷ (event.Get a None, reply.Got None)
    ∷ (event.Show, reply.Shown (record { number = 2; flushed = 1; files = first_file ∷ [] }))
    ∷ (event.Release first_snapshot, reply.Released first_snapshot)
    ∷ (event.Trim 2, reply.Trimmed 2 [])
    ∷ (event.RestartCoordinator, reply.Restarted 2 3 2)
    ∷ (event.RestartWorker 1, reply.RestartedWorker 1)
    ∷ (event.RestartFollower 1, reply.RestartedFollower 1)
    ∷ [])

-- a job is picked, its tables are fetched, and its result is installed
abbrev pub JobIsMergedAndInstalled : Type 0
JobIsMergedAndInstalled = IsWorked (
    (event.Write (Put a one ∷ []), reply.Wrote 1 1)
    ∷ (event.Flush, reply.Flushed (record { number = 2; seq = 1; file = 1 }))
    ∷ (event.Write (Delete a ∷ []), reply.Wrote 2 2)
    ∷ (event.Flush, reply.Flushed (record { number = 3; seq = 2; file = 2 }))
    ∷ (event.Pick 1, reply.Picked (picked_job 1 1 (1 ∷ 2 ∷ [])) (sent.Messages 1 1))
    ∷ (event.Pick 2, reply.Idle)
    ∷ (event.Deliver 1, reply.Collecting 2 (sent.Messages 2 3))
    ∷ (event.Deliver 2, reply.Served (sent.Messages 4 4))
    ∷ (event.Deliver 3, reply.Served (sent.Messages 5 5))
    ∷ (event.Deliver 4, reply.Collecting 1 sent.Nothing)
    ∷ (event.Deliver 5, reply.Merged (sent.Messages 6 6))
    ∷ (event.Deliver 5, reply.Ignored)
    ∷ (event.Deliver 6, reply.Installed 4 [])
    ∷ (event.Get a None, reply.Got None)
    ∷ [])

-- a claim is given back, and one of an epoch before; a worker whose input was let go drops its job
abbrev pub ClaimsAreGivenBack : Type 0
ClaimsAreGivenBack = IsWorked (
    (event.Write (Put a one ∷ []), reply.Wrote 1 1)
    ∷ (event.Flush, reply.Flushed (record { number = 2; seq = 1; file = 1 }))
    ∷ (event.Write (Put a two ∷ []), reply.Wrote 2 2)
    ∷ (event.Flush, reply.Flushed (record { number = 3; seq = 2; file = 2 }))
    ∷ (event.Pick 1, reply.Picked (picked_job 1 1 (1 ∷ 2 ∷ [])) (sent.Messages 1 1))
    ∷ (event.GiveUp 1, reply.Returned (record { epoch = 1; number = 1 }))
    ∷ (event.Pick 2, reply.Picked (picked_job 1 2 (1 ∷ 2 ∷ [])) (sent.Messages 2 2))
    ∷ (event.Deliver 2, reply.Collecting 2 (sent.Messages 3 4))
    ∷ (event.Deliver 3, reply.Served (sent.Messages 5 5))
    ∷ (event.Deliver 4, reply.Served (sent.Messages 6 6))
    ∷ (event.Deliver 5, reply.Collecting 1 sent.Nothing)
    ∷ (event.Deliver 6, reply.Merged (sent.Messages 7 7))
    ∷ (event.Deliver 7, reply.Installed 4 (3 ∷ []))
    ∷ (event.Trim 4, reply.Trimmed 4 (1 ∷ 2 ∷ []))
    ∷ (event.Deliver 1, reply.Collecting 2 (sent.Messages 8 9))
    ∷ (event.Deliver 8, reply.Served (sent.Messages 10 10))
    ∷ (event.Deliver 10, reply.Dropped)
    ∷ (event.Write (Put a one ∷ []), reply.Wrote 3 3)
    ∷ (event.Flush, reply.Flushed (record { number = 5; seq = 3; file = 4 }))
    ∷ (event.Write (Put a two ∷ []), reply.Wrote 4 4)
    ∷ (event.Flush, reply.Flushed (record { number = 6; seq = 4; file = 5 }))
    ∷ (event.Pick 1, reply.Picked (picked_job 1 3 (3 ∷ 4 ∷ 5 ∷ [])) (sent.Messages 11 11))
    ∷ (event.RestartCoordinator, reply.Restarted 2 7 4)
    ∷ (event.GiveUp 1, reply.StaleClaim (record { epoch = 1; number = 3 }))
    ∷ [])

-- a follower goes on edit by edit, drops a version whose table was let go, and takes a whole one
abbrev pub FollowersGoOn : Type 0
FollowersGoOn = IsWorked (
    (event.Write (Put a one ∷ []), reply.Wrote 1 1)
    ∷ (event.Flush, reply.Flushed (record { number = 2; seq = 1; file = 1 }))
    ∷ (event.Write (Put a two ∷ []), reply.Wrote 2 2)
    ∷ (event.Flush, reply.Flushed (record { number = 3; seq = 2; file = 2 }))
    ∷ (event.Ask 2, reply.Asked (sent.Messages 1 1))
    ∷ (event.Deliver 1, reply.Served (sent.Messages 2 2))
    ∷ (event.Deliver 2, reply.Advanced 1)
    ∷ (event.Ask 2, reply.Asked (sent.Messages 3 3))
    ∷ (event.Deliver 3, reply.Served (sent.Messages 4 4))
    ∷ (event.Deliver 4, reply.Waiting 1 (sent.Messages 5 5))
    ∷ (event.Pick 1, reply.Picked (picked_job 1 1 (1 ∷ 2 ∷ [])) (sent.Messages 6 6))
    ∷ (event.Deliver 6, reply.Collecting 2 (sent.Messages 7 8))
    ∷ (event.Deliver 7, reply.Served (sent.Messages 9 9))
    ∷ (event.Deliver 8, reply.Served (sent.Messages 10 10))
    ∷ (event.Deliver 9, reply.Collecting 1 sent.Nothing)
    ∷ (event.Deliver 10, reply.Merged (sent.Messages 11 11))
    ∷ (event.Deliver 11, reply.Installed 4 (3 ∷ []))
    ∷ (event.Trim 4, reply.Trimmed 4 (1 ∷ 2 ∷ []))
    ∷ (event.Deliver 5, reply.Served (sent.Messages 12 12))
    ∷ (event.Deliver 12, reply.Dropped)
    ∷ (event.Ask 2, reply.Asked (sent.Messages 13 13))
    ∷ (event.Deliver 13, reply.Served (sent.Messages 14 14))
    ∷ (event.Deliver 14, reply.Waiting 1 (sent.Messages 15 15))
    ∷ (event.Deliver 15, reply.Served (sent.Messages 16 16))
    ∷ (event.Deliver 16, reply.Advanced 4)
    ∷ (event.Read 2 a, reply.ReadAt 4 (Some two))
    ∷ (event.ShowFollower 2, reply.Shown (record { number = 4; flushed = 2; files = third_file ∷ [] }))
    ∷ (event.Ask 2, reply.Asked (sent.Messages 17 17))
    ∷ (event.Deliver 17, reply.Served (sent.Messages 18 18))
    ∷ (event.Deliver 18, reply.Current)
    ∷ (event.Deliver 12, reply.Ignored)
    ∷ (event.RestartFollower 2, reply.RestartedFollower 2)
    ∷ (event.Read 2 a, reply.ReadAt 0 None)
    ∷ [])
