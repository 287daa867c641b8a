-- Worlds that a user would call broken. Where its replies show it, a world is a list of events with these replies, and no run of a new
-- store; where only a claim, a message or a table shows it, a chain of its nodes' steps, and no such chain can be (the store's own).
use Rattle.std.specs.Prelude.{◌≡◌, ℕ, ◌+◌, List, [], ◌∷◌, None, Some, length}
use Rattle.lsm_key.specs.Sets.{IsIn}
use Rattle.lsm_key.specs.declared.op.Op.TheVariants.{Put}
use Rattle.lsm_claim.specs.declared.job.JobId.{JobId}
use Rattle.lsm_edit.specs.Served.{IsServed}
use Rattle.lsm_msg.specs.declared.job.JobResult.{JobResult}
use Rattle.lsm_msg.specs.declared.message.Body.TheVariants as body
use Rattle.lsm_msg.specs.declared.message.Message.{Message}
use Rattle.lsm_msg.specs.declared.node.Node.{Node}
use Rattle.lsm_msg.specs.declared.node.Node.TheVariants.{Coordinator, Worker}
use Rattle.lsm_coord.specs.Model.Event as say
use Rattle.lsm_coord.specs.Model.Examples.{a, b, one, two, first_snapshot}
use Rattle.lsm_coord.specs.Model.Run.{RunOfNew}
use Rattle.lsm_world.specs.declared.event.Event.TheVariants as event
use Rattle.lsm_world.specs.declared.reply.PickedJob.{PickedJob}
use Rattle.lsm_world.specs.declared.reply.Reply.TheVariants as reply
use Rattle.lsm_world.specs.declared.reply.Sent.{Sent}
use Rattle.lsm_world.specs.declared.reply.Sent.TheVariants as sent
use Rattle.lsm_world.specs.Asks.WhileUp.{Asks}
use Rattle.lsm_world.specs.Headline.{ReadsAreNewest}
use Rattle.lsm_world.specs.Inner.Working.{IsMessageAt}
use Rattle.lsm_world.specs.Nodes.{NodesValue}

-- ---- by its replies

-- A follower answers from a version that it has not.
abbrev pub VersionNotHeldIsNoRun : Type 0
VersionNotHeldIsNoRun = RunOfNew (
    (say.Write (Put a one ∷ []), say.Wrote 1 1)
    ∷ (say.Flush, say.Flushed 2 1 1)
    ∷ (say.Read 1 a, say.ReadAt 2 (Some one))
    ∷ []) → ⊥

-- A follower takes a whole version, and its answer lacks the version's last write.
abbrev pub SkippedWriteIsNoRun : Type 0
SkippedWriteIsNoRun = RunOfNew (
    (say.Write (Put a one ∷ []), say.Wrote 1 1)
    ∷ (say.Flush, say.Flushed 2 1 1)
    ∷ (say.Write (Put a two ∷ []), say.Wrote 2 2)
    ∷ (say.Flush, say.Flushed 3 2 2)
    ∷ (say.Deliver 2, say.Advanced 3)
    ∷ (say.Read 1 a, say.ReadAt 3 (Some one))
    ∷ []) → ⊥

-- After a restart a sequence is given once more, while the write that had it is there.
abbrev pub SequenceGivenTwiceIsNoRun : Type 0
SequenceGivenTwiceIsNoRun = RunOfNew (
    (say.Write (Put a one ∷ []), say.Wrote 1 1)
    ∷ (say.Flush, say.Flushed 2 1 1)
    ∷ (say.Restart say.Coordinator, say.Restarted 2 3 1)
    ∷ (say.Write (Put b two ∷ []), say.Wrote 1 1)
    ∷ []) → ⊥

-- An epoch comes back.
abbrev pub EpochAgainIsNoRun : Type 0
EpochAgainIsNoRun = RunOfNew (
    (say.Restart say.Coordinator, say.Restarted 2 2 0)
    ∷ (say.Restart say.Coordinator, say.Restarted 2 3 0)
    ∷ []) → ⊥

-- Two nodes show two listings under one number.
abbrev pub TwoListingsAreNoRun : Type 0
TwoListingsAreNoRun = RunOfNew (
    (say.Write (Put a one ∷ []), say.Wrote 1 1)
    ∷ (say.Flush, say.Flushed 2 1 1)
    ∷ (say.Deliver 2, say.Advanced 2)
    ∷ (say.Show say.Coordinator, say.Shown 2 1 (record { level = 0; file = 1 } ∷ []))
    ∷ (say.Show (say.Follower 1), say.Shown 2 1 [])
    ∷ []) → ⊥

-- The inputs of a job are those of another job that was installed: both outputs are listed.
abbrev pub MergedAgainIsNoRun : Type 0
MergedAgainIsNoRun = RunOfNew (
    (say.Write (Put a one ∷ []), say.Wrote 1 1)
    ∷ (say.Flush, say.Flushed 2 1 1)
    ∷ (say.Deliver 6, say.Installed 3 (2 ∷ []))
    ∷ (say.Show say.Coordinator, say.Shown 3 1 (record { level = 1; file = 2 } ∷ []))
    ∷ (say.Deliver 12, say.Installed 4 (3 ∷ []))
    ∷ (say.Show say.Coordinator, say.Shown 4 1 (record { level = 1; file = 2 } ∷ record { level = 1; file = 3 } ∷ []))
    ∷ []) → ⊥

-- A snapshot that was made before a restart still answers.
abbrev pub DeadSnapshotIsNoRun : Type 0
DeadSnapshotIsNoRun = RunOfNew (
    (say.Snap, say.Snapped first_snapshot 0)
    ∷ (say.Restart say.Coordinator, say.Restarted 2 2 0)
    ∷ (say.Get a (Some first_snapshot), say.Got None)
    ∷ []) → ⊥

-- A restart is refused since memory ran out, so that the coordinator may be up with all that it had, or down; and then a get finds that the
-- write is lost: its value is the newest write of no state in which the get is not refused.
abbrev pub WriteLostAtRefusedRestartIsNotNewest : Type 0
WriteLostAtRefusedRestartIsNotNewest = ReadsAreNewest (
    (say.Write (Put a one ∷ []), say.Wrote 1 1)
    ∷ (say.Restart say.Coordinator, say.Refused say.OutOfMemory)
    ∷ (say.Get a None, say.Got None)
    ∷ []) → ⊥

-- ---- by claims, messages and tables

-- from this worker to the coordinator, the result of this job
abbrev pub IsResultOfJob : Message → ℕ → JobId → Type 0
IsResultOfJob m worker id = (made : JobResult) × (m ≡ record { src = Worker worker; dst = Coordinator; body = body.Result made }) × (made.job ≡ id)

-- A dispatcher gives its claim back and picks another job, and then the late result of the first one is installed.
abbrev pub LateResultIsNotInstalled : Type 0
LateResultIsNotInstalled = (n1 n2 n3 n4 : NodesValue) (d : ℕ) (id : JobId) (told : PickedJob) (sent : Sent) (m : Message) (place number : ℕ) (files : List ℕ)
    → Asks n1 (event.GiveUp d) (reply.Returned id) n2
    → Asks n2 (event.Pick d) (reply.Picked told sent) n3 → (told.id ≡ id → ⊥)
    → IsMessageAt n3.network.messages place m → IsResultOfJob m d id
    → Asks n3 (event.Deliver place) (reply.Installed number files) n4 → ⊥

-- A dispatcher gives its claim back, and then the late result of its job is installed.
abbrev pub ReturnedClaimInstallsNothing : Type 0
ReturnedClaimInstallsNothing = (n1 n2 n3 : NodesValue) (d : ℕ) (id : JobId) (m : Message) (place number : ℕ) (files : List ℕ)
    → Asks n1 (event.GiveUp d) (reply.Returned id) n2
    → IsMessageAt n2.network.messages place m → IsResultOfJob m d id
    → Asks n2 (event.Deliver place) (reply.Installed number files) n3 → ⊥

-- a fetch of this file, by this node
abbrev pub IsFetchOf : Message → Node → ℕ → Type 0
IsFetchOf m asker file = m ≡ record { src = asker; dst = Coordinator; body = body.Fetch file }

-- A trim lets a table go that a node is about to fetch, and then a table comes for it all the same.
abbrev pub TableLetGoIsNotServed : Type 0
TableLetGoIsNotServed = (n1 n2 n3 : NodesValue) (v floor file place answer : ℕ) (removed bytes : List ℕ) (asker : Node) (m said : Message)
    → IsServed n1.core.served
    → Asks n1 (event.Trim v) (reply.Trimmed floor removed) n2 → IsIn file removed
    → IsMessageAt n2.network.messages place m → IsFetchOf m asker file
    → Asks n2 (event.Deliver place) (reply.Served (sent.Messages answer answer)) n3
    → IsMessageAt n3.network.messages answer said → said.body ≡ body.Table file bytes → ⊥

-- A message that was lost still counts a number: the one after it has the number after the next.
abbrev pub LostMessageCountsNoNumber : Type 0
LostMessageCountsNoNumber = (n1 n2 n3 : NodesValue) (d follower last : ℕ) (told : PickedJob)
    → Asks n1 (event.Pick d) (reply.Picked told sent.Lost) n2
    → Asks n2 (event.Ask follower) (reply.Asked (sent.Messages (length n1.network.messages + 2) last)) n3 → ⊥
