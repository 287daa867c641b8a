-- Schedules: lists of events, each with its reply, of the nodes of one store (the store's own).
use Rattle.std.specs.Prelude.{◌≡◌, ◌⊎◌, ℕ, List, [], ◌∷◌, ◌++◌, Option, None, Some, map}
use Rattle.std.specs.FinMap.{empty}
use Rattle.lsm_claim.specs.Book.{new_book}
use Rattle.lsm_key.specs.declared.limits.Limits.{Limits}
use Rattle.lsm_edit.specs.Edits.{RemovedOnce}
use Rattle.lsm_versions.specs.declared.error.OpenError.TheVariants as opening
use Rattle.lsm_versions.specs.Manifest.{Folds, read_edits}
use Rattle.lsm_versions.specs.Opening.{HaveTables, manifest_version}
use Rattle.lsm_coord.specs.declared.error.CoordError.TheVariants as error
use Rattle.lsm_coord.specs.Contract.Desks.{new_desk}
use Rattle.lsm_coord.specs.Contract.Memory.{IsFit}
use Rattle.lsm_coord.specs.Contract.Restarts.{up_seat}
use Rattle.lsm_coord.specs.Contract.Seats.{SeatValue}
use Rattle.lsm_coord.specs.Contract.Shows.{Shows}
use Rattle.lsm_coord.specs.Contract.Value.{CoordValue}
use Rattle.lsm_coord.specs.Model.Event as say
use Rattle.lsm_coord.specs.Model.Run.{Run}
use Rattle.lsm_coord.specs.Model.State.{State, first_state}
use Rattle.lsm_follow.specs.Followers.{FollowerValue, new_follower}
use Rattle.lsm_work.specs.Workers.{WorkerValue}
use Rattle.lsm_world.specs.declared.event.Event.{Event}
use Rattle.lsm_world.specs.declared.refusal.Refusal.TheVariants as why
use Rattle.lsm_world.specs.declared.reply.Reply.{Reply}
use Rattle.lsm_world.specs.declared.reply.Reply.TheVariants as reply
use Rattle.lsm_world.specs.Asks.Store.{AsksIfTaken}
use Rattle.lsm_world.specs.Events.{event_of}
use Rattle.lsm_world.specs.History.{first_indices}
use Rattle.lsm_world.specs.Shown.{ShowsStore}
use Rattle.lsm_world.specs.Nodes.{NodesValue, StoreValue, up_store}
use Rattle.lsm_world.specs.Replies.{reply_of}

-- what contracts see of a world
pub record WorldValue : Type 0 where
  pub nodes : StoreValue
  pub trace : List Event  -- the events that were taken

-- four followers at version 0
abbrev pub first_followers : List FollowerValue
first_followers = map new_follower first_indices

-- an idle worker
abbrev pub idle_worker : ℕ → WorkerValue
idle_worker index = record { index = index; task = None }

-- the nodes of a new store with these limits, of which none was asked
pub record AreNew (due : Limits) (n : NodesValue) : Type 0 where
  pub shown : Shows n.core first_state
  pub limits : n.core.limits ≡ due
  pub kept : n.core.stored.tables ≡ empty
  pub book : n.core.book ≡ new_book 1
  pub desk : n.desk ≡ new_desk
  pub workers : n.network.workers ≡ map idle_worker first_indices
  pub followers : n.network.followers ≡ first_followers
  pub messages : n.network.messages ≡ []

-- no event was taken, and the nodes show the first state
abbrev pub IsNew : Limits → WorldValue → Type 0
IsNew due w = (n : NodesValue) × AreNew due n × (w.nodes ≡ up_store n) × (w.trace ≡ []) × ShowsStore w.nodes first_state

-- the events alone
abbrev pub events_in : List (Event × Reply) → List Event
events_in steps = map (λ step. step.0) steps

-- the replies alone
abbrev pub replies_in : List (Event × Reply) → List Reply
replies_in steps = map (λ step. step.1) steps

-- a step, in the words of the model
abbrev pub model_step : Event × Reply → say.Event × say.Reply
model_step step = (event_of step.0, reply_of step.1)

-- the steps of a list, in the words of the model
abbrev pub model_steps : List (Event × Reply) → List (say.Event × say.Reply)
model_steps steps = map model_step steps

-- each event that was taken asked its node, and got the reply
abbrev pub AskedAll : StoreValue → List (Event × Reply) → StoreValue → Type 0
AskedAll old [] new = new ≡ old
AskedAll old ((e, r) ∷ steps) new = (next : StoreValue) × AsksIfTaken old e r next × AskedAll next steps new

-- from each state that is shown before, the events with their replies are a run to one that is shown after
abbrev pub RunsTo : StoreValue → List (Event × Reply) → StoreValue → Type 0
RunsTo old steps new = (s : State) → ShowsStore old s → (t : State) × Run s (model_steps steps) t × ShowsStore new t

-- the events that were taken, in order
abbrev pub trace_of : List (Event × Reply) → List Event
trace_of [] = []
trace_of ((e, reply.Refused why.NotTaken) ∷ steps) = trace_of steps
trace_of ((e, r) ∷ steps) = e ∷ trace_of steps

-- they follow on the trace
abbrev pub IsTraced : List Event → List (Event × Reply) → List Event → Type 0
IsTraced old steps new = new ≡ old ++ trace_of steps

-- one event follows on it, if it was taken
abbrev pub IsTaken : WorldValue → Event → Reply → WorldValue → Type 0
IsTaken old e r new = IsTraced old.trace ((e, r) ∷ []) new.trace

-- no manifest is bad, no table is missing, no log is bad, and no result is refused as of another job or as none of its job
abbrev pub IsPlain : Reply → Type 0
IsPlain (reply.Refused (why.Open opening.BadManifest)) = ⊥
IsPlain (reply.Refused (why.Open opening.MissingTable)) = ⊥
IsPlain (reply.Refused (why.Open opening.BadLog)) = ⊥
IsPlain (reply.Refused (why.Coord error.BadManifest)) = ⊥
IsPlain (reply.Refused (why.Coord error.MissingTable)) = ⊥
IsPlain (reply.Refused (why.Coord error.BadLog)) = ⊥
IsPlain (reply.Refused (why.Coord error.WrongJob)) = ⊥
IsPlain (reply.Refused (why.Coord error.BadResult)) = ⊥
IsPlain r = Unit {0}

-- one for a reply that the vault's device failed
abbrev pub device_failures : Reply → ℕ
device_failures (reply.Refused (why.Coord error.Device)) = 1
device_failures (reply.Refused (why.Open opening.Device)) = 1
device_failures r = 0

-- the events that were taken, with replies, led from a new store to a state that the store shows
pub record IsReached (w : WorldValue) : Type 0 where
  pub steps : List (Event × Reply)
  pub taken : w.trace ≡ events_in steps
  pub state : State
  pub run : Run first_state (model_steps steps) state
  pub shown : ShowsStore w.nodes state

-- of a coordinator that is up: what every coordinator keeps, and the vault, the book and the limits of the seat are its own
pub record IsFitUp (c : CoordValue) (seat : SeatValue) : Type 0 where
  pub coordinator : IsFit c
  pub same : seat ≡ up_seat c

-- Of one that is down: the vault's manifest replays to its last version, no file is removed by two of its edits, each file of the
-- version has its table in the vault, as its record says, and no claim is live.
pub record IsFitDown (seat : SeatValue) : Type 0 where
  pub manifest : Folds seat.stored.edits (manifest_version seat.stored.edits)
  pub once : RemovedOnce (read_edits seat.stored.edits)
  pub tables : HaveTables seat.stored.tables (manifest_version seat.stored.edits).files
  pub idle : seat.book.live ≡ []

-- the seat of this coordinator, or of none, is fit
abbrev pub IsFitBy : Option CoordValue → SeatValue → Type 0
IsFitBy (Some c) seat = IsFitUp c seat
IsFitBy None seat = IsFitDown seat

-- What every world is: its trace led to what its nodes show, whose history has said so of each job, result, table, edit and
-- version; and the seat is fit, so that no file is removed by two of the vault's edits.
pub record IsWorld (w : WorldValue) : Type 0 where
  pub reached : IsReached w
  pub fit : IsFitBy w.nodes.seat.core w.nodes.seat
