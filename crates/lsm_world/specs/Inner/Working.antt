-- What a worker or a follower in its place does with a message, and what they keep (the store's own).
use Rattle.std.specs.Prelude.{◌≡◌, ℕ, List, Some}
use Rattle.lsm_follow.specs.declared.change.FollowChange.{FollowChange}
use Rattle.lsm_follow.specs.Followers.{FollowerValue, TakesBody}
use Rattle.lsm_edit.specs.Served.{IsServed}
use Rattle.lsm_msg.specs.declared.message.Body.{Body}
use Rattle.lsm_msg.specs.declared.message.Message.{Message}
use Rattle.lsm_msg.specs.Messages.{IsSpelled}
use Rattle.lsm_coord.specs.Model.Changes.{IsIndex}
use Rattle.lsm_work.specs.declared.change.WorkChange.{WorkChange}
use Rattle.lsm_work.specs.Workers.{WorkerValue, Works}
use Rattle.lsm_world.specs.declared.event.Event.{Event}
use Rattle.lsm_world.specs.declared.event.Event.TheVariants as event
use Rattle.lsm_world.specs.Asks.Messages.{stored_message}
use Rattle.lsm_world.specs.History.{AreFilesOf, AreJobsOf, History, IsNetwork}
use Rattle.lsm_world.specs.Nodes.{NetworkValue, at_index, with_index}

-- the worker of the index was changed so by the message, and these messages are to be sent
pub record HasWorked (old : List WorkerValue) (index : ℕ) (said : Body) (change : WorkChange) (sent : List Message) (new : List WorkerValue) : Type 0 where
  pub before : WorkerValue
  pub after : WorkerValue
  pub is_there : at_index old index ≡ Some before
  pub works : Works before said (record { change = change; sent = sent; worker = after })
  pub new_is : new ≡ with_index old index after

-- the same of a follower
pub record HasFollowed (old : List FollowerValue) (index : ℕ) (said : Body) (change : FollowChange) (sent : List Message) (new : List FollowerValue) : Type 0 where
  pub before : FollowerValue
  pub after : FollowerValue
  pub is_there : at_index old index ≡ Some before
  pub follows : TakesBody before said (record { change = change; sent = sent; follower = after })
  pub new_is : new ≡ with_index old index after

-- the message was sent under this number
abbrev pub IsMessageAt : List (List ℕ) → ℕ → Message → Type 0
IsMessageAt messages number m = (text : List ℕ) × (stored_message messages number ≡ Some text) × IsSpelled text m

-- what the network had of any history, it has of it again
abbrev pub KeepsNetwork : NetworkValue → NetworkValue → Type 0
KeepsNetwork old new = (h : History) → AreFilesOf h → AreJobsOf h → IsNetwork h old → IsNetwork h new

-- The index is one of four. The tables of a follower that is read are those of its version.
abbrev pub IsSoundAsk : NetworkValue → Event → Type 0
IsSoundAsk n (event.RestartWorker index) = IsIndex index
IsSoundAsk n (event.RestartFollower index) = IsIndex index
IsSoundAsk n (event.Ask index) = IsIndex index
IsSoundAsk n (event.Read index key) = IsIndex index × ((f : FollowerValue) → at_index n.followers index ≡ Some f → IsServed f.served)
IsSoundAsk n (event.ShowFollower index) = IsIndex index
IsSoundAsk n e = Unit {0}
