-- Which node each event asks while the coordinator is down, since an opening was refused: workers and followers go on, all else is refused.
use Rattle.std.specs.Prelude.{◌≡◌, ℕ, List, Option, None, Some}
use Rattle.lsm_key.specs.declared.batch.KeyError.{KeyError}
use Rattle.lsm_key.specs.Limits.{batch_fault}
use Rattle.lsm_msg.specs.declared.message.Message.{Message}
use Rattle.lsm_msg.specs.declared.node.Node.{Node}
use Rattle.lsm_msg.specs.declared.node.Node.TheVariants.{Coordinator}
use Rattle.lsm_msg.specs.Messages.{IsSpelled}
use Rattle.lsm_world.specs.declared.event.Event.{Event}
use Rattle.lsm_world.specs.declared.event.Event.TheVariants as event
use Rattle.lsm_world.specs.declared.refusal.Refusal.{Refusal}
use Rattle.lsm_world.specs.declared.refusal.Refusal.TheVariants as why
use Rattle.lsm_world.specs.declared.reply.Reply.{Reply}
use Rattle.lsm_world.specs.declared.reply.Reply.TheVariants as reply
use Rattle.lsm_world.specs.Nodes.{StoreValue}
use Rattle.lsm_world.specs.Asks.Messages.{stored_message}
use Rattle.lsm_world.specs.Asks.Network.{AsksNetwork, DeliversOn}

-- what is for the coordinator or a dispatcher is refused, and changes nothing
abbrev pub IsDown : StoreValue → Reply → StoreValue → Type 0
IsDown old r new = (r ≡ reply.Refused why.Down) × (new ≡ old)

-- why a write is refused: for a fault of its own batch, if it has one, else since the coordinator is down
abbrev pub down_write : Option KeyError → Refusal
down_write None = why.Down
down_write (Some e) = why.Key e

-- the message is delivered to a worker or a follower; one for the coordinator is refused, and may be delivered later
abbrev pub DeliversDown : StoreValue → Message → Node → Reply → StoreValue → Type 0
DeliversDown old m Coordinator r new = IsDown old r new
DeliversDown old m dst r new = DeliversOn old.network m dst r new.network × (new ≡ record old { network = new.network })

-- the message of this number is delivered, or no message has the number
abbrev pub DeliversAtDown : StoreValue → ℕ → Reply → StoreValue → Type 0
DeliversAtDown old number (reply.Refused why.NoMessage) new = (stored_message old.network.messages number ≡ None) × (new ≡ old)
DeliversAtDown old number r new =
    (text : List ℕ) × (stored_message old.network.messages number ≡ Some text) × (m : Message) × IsSpelled text m × DeliversDown old m m.dst r new

-- a worker or a follower is asked; what outlives the coordinator, and the dispatchers, stay as they are
abbrev pub AsksOtherDown : StoreValue → Event → Reply → StoreValue → Type 0
AsksOtherDown old e r new = AsksNetwork old.network e r new.network × (new ≡ record old { network = new.network })

-- A delivery asks the receiver of its message, and the events of a worker or a follower ask that one. A write is refused for its own fault
-- first; all others are refused since the coordinator is down.
abbrev pub AsksDown : StoreValue → Event → Reply → StoreValue → Type 0
AsksDown old (event.Write ops) r new = (r ≡ reply.Refused (down_write (batch_fault ops))) × (new ≡ old)
AsksDown old (event.Deliver number) r new = DeliversAtDown old number r new
AsksDown old (event.RestartWorker index) r new = AsksOtherDown old (event.RestartWorker index) r new
AsksDown old (event.RestartFollower index) r new = AsksOtherDown old (event.RestartFollower index) r new
AsksDown old (event.Ask index) r new = AsksOtherDown old (event.Ask index) r new
AsksDown old (event.Read index key) r new = AsksOtherDown old (event.Read index key) r new
AsksDown old (event.ShowFollower index) r new = AsksOtherDown old (event.ShowFollower index) r new
AsksDown old e r new = IsDown old r new
