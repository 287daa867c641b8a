-- How a claim changes hands (the store's own).
use Rattle.std.specs.Prelude.{◌≡◌, ℕ, List, [], ◌∷◌}
use Rattle.lsm_key.specs.Sets.{IsIn}
use Rattle.lsm_claim.specs.declared.ending.Settled.{Settled}
use Rattle.lsm_claim.specs.declared.ending.Settled.TheVariants.{Live, Stale}
use Rattle.lsm_claim.specs.declared.job.JobId.{JobId}
use Rattle.lsm_msg.specs.declared.job.JobParts.{JobParts}
use Rattle.lsm_msg.specs.declared.message.Body.{Body}
use Rattle.lsm_msg.specs.declared.message.Body.TheVariants as body
use Rattle.lsm_msg.specs.declared.message.Message.{Message}
use Rattle.lsm_msg.specs.declared.node.Node.{Node}
use Rattle.lsm_msg.specs.declared.node.Node.TheVariants.{Coordinator, Worker, Follower}
use Rattle.lsm_msg.specs.Messages.{IsSpelled}
use Rattle.lsm_coord.specs.declared.coord.install.Install.{Install}
use Rattle.lsm_coord.specs.declared.coord.install.Install.TheVariants as became
use Rattle.lsm_coord.specs.declared.dispatcher.Dispatcher.{Dispatcher}
use Rattle.lsm_coord.specs.declared.dispatcher.Dispatcher.TheVariants.{Busy}
use Rattle.lsm_coord.specs.Contract.Desks.{with_dispatcher}
use Rattle.lsm_world.specs.declared.event.Event.{Event}
use Rattle.lsm_world.specs.declared.event.Event.TheVariants as event
use Rattle.lsm_world.specs.declared.reply.PickedJob.{PickedJob}
use Rattle.lsm_world.specs.declared.reply.Reply.{Reply}
use Rattle.lsm_world.specs.declared.reply.Reply.TheVariants as reply
use Rattle.lsm_world.specs.declared.reply.Sent.{Sent}
use Rattle.lsm_world.specs.Asks.Dispatchers.{TellsJob, job_message}
use Rattle.lsm_world.specs.Asks.Messages.{Sends}

-- the event is one of the coordinator's own
abbrev pub IsOfCoordinator : Event → Type 0
IsOfCoordinator (event.Pick d) = ⊥
IsOfCoordinator (event.GiveUp d) = ⊥
IsOfCoordinator (event.Deliver number) = ⊥
IsOfCoordinator event.RestartCoordinator = ⊥
IsOfCoordinator (event.RestartWorker index) = ⊥
IsOfCoordinator (event.RestartFollower index) = ⊥
IsOfCoordinator (event.Ask index) = ⊥
IsOfCoordinator (event.Read index key) = ⊥
IsOfCoordinator (event.ShowFollower index) = ⊥
IsOfCoordinator e = Unit {0}

-- the event is no restart of the coordinator
abbrev pub IsNoRestart : Event → Type 0
IsNoRestart event.RestartCoordinator = ⊥
IsNoRestart e = Unit {0}

-- the coordinator or a dispatcher is asked, and no batch is refused before
abbrev pub IsForCoordinator : Event → Type 0
IsForCoordinator (event.Write ops) = ⊥
IsForCoordinator (event.Deliver number) = ⊥
IsForCoordinator event.RestartCoordinator = ⊥
IsForCoordinator (event.RestartWorker index) = ⊥
IsForCoordinator (event.RestartFollower index) = ⊥
IsForCoordinator (event.Ask index) = ⊥
IsForCoordinator (event.Read index key) = ⊥
IsForCoordinator (event.ShowFollower index) = ⊥
IsForCoordinator e = Unit {0}

-- a worker or a follower is asked
abbrev pub IsOfNetwork : Event → Type 0
IsOfNetwork (event.RestartWorker index) = Unit {0}
IsOfNetwork (event.RestartFollower index) = Unit {0}
IsOfNetwork (event.Ask index) = Unit {0}
IsOfNetwork (event.Read index key) = Unit {0}
IsOfNetwork (event.ShowFollower index) = Unit {0}
IsOfNetwork e = ⊥

-- the receiver is a worker or a follower
abbrev pub IsOther : Node → Type 0
IsOther Coordinator = ⊥
IsOther (Worker index) = Unit {0}
IsOther (Follower index) = Unit {0}

-- the coordinator answers it
abbrev pub IsQuestion : Body → Type 0
IsQuestion (body.Fetch file) = Unit {0}
IsQuestion (body.Ask number) = Unit {0}
IsQuestion said = ⊥

-- the message was sent
abbrev pub IsStored : List (List ℕ) → Message → Type 0
IsStored messages m = (text : List ℕ) × IsIn text messages × IsSpelled text m

-- the reply names the job, which is sent to the dispatcher's worker
abbrev pub TellsPicked : List (List ℕ) → ℕ → JobParts → Reply → List (List ℕ) → Type 0
TellsPicked old d job r new = (told : PickedJob) × (sent : Sent) × (r ≡ reply.Picked told sent) × TellsJob told job × Sends old (job_message d job ∷ []) sent new

-- the reply to a claim that was given back
abbrev pub settled_reply : JobId → Settled → Reply
settled_reply id Live = reply.Returned id
settled_reply id Stale = reply.StaleClaim id

-- a claim that was not settled is held by an idle dispatcher again
abbrev pub desk_settled : List Dispatcher → ℕ → Install → List Dispatcher
desk_settled desk d (became.Done number files) = desk
desk_settled desk d (became.Stale job epoch) = desk
desk_settled desk d (became.Kept claim e) = with_dispatcher desk d (Busy claim)
