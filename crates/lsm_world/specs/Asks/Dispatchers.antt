-- What a dispatcher answers: it picks a job for its worker, holds the job's claim, and installs the result or gives the claim back (RocksDB wiki,
-- Remote Compaction: the primary schedules a job, a worker runs it, the primary installs its result). Dispatcher `d` has worker `d`.
use Rattle.std.specs.Prelude.{◌≡◌, ℕ, List, [], ◌∷◌, None, map}
use Rattle.lsm_claim.specs.declared.ending.Settled.TheVariants.{Live, Stale}
use Rattle.lsm_claim.specs.declared.job.LiveJob.{LiveJob}
use Rattle.lsm_claim.specs.declared.job.JobId.{JobId}
use Rattle.lsm_claim.specs.Book.{settle_answer}
use Rattle.lsm_msg.specs.declared.job.JobParts.{JobParts}
use Rattle.lsm_msg.specs.declared.job.JobResult.{JobResult}
use Rattle.lsm_msg.specs.declared.message.Body.TheVariants as body
use Rattle.lsm_msg.specs.declared.message.Message.{Message}
use Rattle.lsm_msg.specs.declared.node.Node.TheVariants.{Coordinator, Worker}
use Rattle.lsm_coord.specs.declared.coord.install.Install.{Install}
use Rattle.lsm_coord.specs.declared.coord.install.Install.TheVariants as became
use Rattle.lsm_coord.specs.declared.dispatcher.Dispatcher.{Dispatcher}
use Rattle.lsm_coord.specs.declared.dispatcher.Dispatcher.TheVariants.{Idle, Busy}
use Rattle.lsm_coord.specs.Contract.Calls.{after_give_back}
use Rattle.lsm_coord.specs.Contract.Desks.{dispatcher_of, with_dispatcher}
use Rattle.lsm_coord.specs.Contract.Installing.{Became}
use Rattle.lsm_coord.specs.Contract.Picking.{IsPicked, Picks, PickRefuses}
use Rattle.lsm_coord.specs.Contract.Replies.{error_of}
use Rattle.lsm_world.specs.declared.refusal.Refusal.TheVariants as why
use Rattle.lsm_world.specs.declared.reply.PickedJob.{PickedJob}
use Rattle.lsm_world.specs.declared.reply.Reply.{Reply}
use Rattle.lsm_world.specs.declared.reply.Reply.TheVariants as reply
use Rattle.lsm_world.specs.Nodes.{NodesValue}
use Rattle.lsm_world.specs.Asks.Messages.{Sends}

-- the message that takes a job from the coordinator to the worker of a dispatcher
abbrev pub job_message : ℕ → JobParts → Message
job_message d job = record { src = Coordinator; dst = Worker d; body = body.Job job }

-- the reply names the job, its level and its input files
abbrev pub TellsJob : PickedJob → JobParts → Type 0
TellsJob told job = (told.id ≡ job.id) × (told.level ≡ job.level) × (told.inputs ≡ map (λ f. f.number) job.inputs)

-- A pick. A dispatcher that holds a claim is busy. An idle one gets the next job if one is due: it holds the job's claim, and the job is sent to
-- its worker. Where none is due, or the pick is refused, nothing changes.
abbrev pub Dispatches : NodesValue → ℕ → Reply → NodesValue → Type 0
Dispatches old d (reply.Refused why.Busy) new = ((claim : LiveJob) × (dispatcher_of old.desk d ≡ Busy claim)) × (new ≡ old)
Dispatches old d (reply.Refused (why.Coord e)) new = (dispatcher_of old.desk d ≡ Idle) × PickRefuses old.core e × (new ≡ old)
Dispatches old d reply.Idle new = (dispatcher_of old.desk d ≡ Idle) × Picks old.core old.core None × (new ≡ old)
Dispatches old d (reply.Picked told sent) new =
    (dispatcher_of old.desk d ≡ Idle) × (claim : LiveJob) × (job : JobParts) × IsPicked old.core claim job new.core × TellsJob told job
    × Sends old.network.messages (job_message d job ∷ []) sent new.network.messages
    × (new ≡ record old { core = new.core; desk = with_dispatcher old.desk d (Busy claim); network = record old.network { messages = new.network.messages } })
Dispatches old d r new = ⊥

-- A dispatcher gives back the claim that it holds, and is idle. The reply says whether the job was live still or stale.
abbrev pub GivesUp : NodesValue → ℕ → Reply → NodesValue → Type 0
GivesUp old d (reply.Refused why.NoClaim) new = (dispatcher_of old.desk d ≡ Idle) × (new ≡ old)
GivesUp old d (reply.Returned id) new =
    (claim : LiveJob) × (dispatcher_of old.desk d ≡ Busy claim) × (id ≡ claim.id) × (settle_answer old.core.book id ≡ Live)
    × (new ≡ record old { core = after_give_back old.core id; desk = with_dispatcher old.desk d Idle })
GivesUp old d (reply.StaleClaim id) new =
    (claim : LiveJob) × (dispatcher_of old.desk d ≡ Busy claim) × (id ≡ claim.id) × (settle_answer old.core.book id ≡ Stale)
    × (new ≡ record old { core = after_give_back old.core id; desk = with_dispatcher old.desk d Idle })
GivesUp old d r new = ⊥

-- the dispatcher holds the claim of the job of this name
abbrev pub HoldsJob : List Dispatcher → ℕ → JobId → Type 0
HoldsJob desk d id = (claim : LiveJob) × (dispatcher_of desk d ≡ Busy claim) × (claim.id ≡ id)

-- the reply to a result that its dispatcher took, by what the install became
abbrev pub dispatcher_reply : Install → Reply
dispatcher_reply (became.Done number files) = reply.Installed number files
dispatcher_reply (became.Stale job epoch) = reply.Refused why.OldEpoch
dispatcher_reply (became.Kept claim e) = reply.Refused (why.Coord (error_of e))

-- the dispatchers after it: a claim that the install handed back is held again, otherwise the dispatcher is idle
abbrev pub desk_after : List Dispatcher → ℕ → Install → List Dispatcher
desk_after desk d (became.Done number files) = with_dispatcher desk d Idle
desk_after desk d (became.Stale job epoch) = with_dispatcher desk d Idle
desk_after desk d (became.Kept claim e) = desk

-- A worker's result goes to its dispatcher. If that holds the claim of the result's job, it installs the result under the claim; otherwise the
-- result is refused, and nothing changes.
abbrev pub TakesResult : NodesValue → ℕ → JobResult → Reply → NodesValue → Type 0
TakesResult old d made (reply.Refused why.NoClaim) new = (HoldsJob old.desk d made.job → ⊥) × (new ≡ old)
TakesResult old d made r new =
    (claim : LiveJob) × (dispatcher_of old.desk d ≡ Busy claim) × (claim.id ≡ made.job)
    × (what : Install) × Became old.core claim made what new.core × (r ≡ dispatcher_reply what)
    × (new ≡ record old { core = new.core; desk = desk_after old.desk d what })
