-- What a message does at its receiver while the coordinator is up. It may be delivered at any time, and any number of times.
use Rattle.std.specs.Prelude.{◌≡◌, ℕ, List, [], ◌∷◌, None, Some}
use Rattle.lsm_msg.specs.declared.message.Body.{Body}
use Rattle.lsm_msg.specs.declared.message.Body.TheVariants as body
use Rattle.lsm_msg.specs.declared.message.Message.{Message}
use Rattle.lsm_msg.specs.declared.node.Node.{Node}
use Rattle.lsm_msg.specs.declared.node.Node.TheVariants.{Coordinator, Worker}
use Rattle.lsm_msg.specs.Messages.{IsSpelled}
use Rattle.lsm_coord.specs.Contract.Serving.{answer_message}
use Rattle.lsm_world.specs.declared.refusal.Refusal.TheVariants as why
use Rattle.lsm_world.specs.declared.reply.Reply.{Reply}
use Rattle.lsm_world.specs.declared.reply.Reply.TheVariants as reply
use Rattle.lsm_world.specs.declared.reply.Sent.{Sent}
use Rattle.lsm_world.specs.Nodes.{NodesValue}
use Rattle.lsm_world.specs.Asks.Dispatchers.{TakesResult}
use Rattle.lsm_world.specs.Asks.Messages.{Sends, stored_message}
use Rattle.lsm_world.specs.Asks.Network.{DeliversOn}

-- the message is ignored, and nothing changes
abbrev pub Ignores : NodesValue → Reply → NodesValue → Type 0
Ignores old r new = (r ≡ reply.Ignored) × (new ≡ old)

-- the coordinator answers the message, and its answer is stored or lost
abbrev pub ServesMessage : NodesValue → Message → Reply → NodesValue → Type 0
ServesMessage old m r new =
    (answer : Message) × (answer_message old.core m m.body ≡ Some answer)
    × (told : Sent) × (r ≡ reply.Served told) × Sends old.network.messages (answer ∷ []) told new.network.messages
    × (new ≡ record old { network = record old.network { messages = new.network.messages } })

-- A message to the coordinator: a fetch or an ask is answered, a result from a worker goes to its dispatcher, anything else is ignored.
abbrev pub Receives : NodesValue → Message → Node → Body → Reply → NodesValue → Type 0
Receives old m src (body.Fetch file) r new = ServesMessage old m r new
Receives old m src (body.Ask number) r new = ServesMessage old m r new
Receives old m (Worker d) (body.Result made) r new = TakesResult old d made r new
Receives old m src said r new = Ignores old r new

-- The message is delivered to its receiver: the coordinator, a worker or a follower.
abbrev pub Delivers : NodesValue → Message → Node → Reply → NodesValue → Type 0
Delivers old m Coordinator r new = Receives old m m.src m.body r new
Delivers old m dst r new = DeliversOn old.network m dst r new.network × (new ≡ record old { network = new.network })

-- The message of this number is delivered, for the first time or once more; or no message has the number.
abbrev pub DeliversAt : NodesValue → ℕ → Reply → NodesValue → Type 0
DeliversAt old number (reply.Refused why.NoMessage) new = (stored_message old.network.messages number ≡ None) × (new ≡ old)
DeliversAt old number r new =
    (text : List ℕ) × (stored_message old.network.messages number ≡ Some text) × (m : Message) × IsSpelled text m × Delivers old m m.dst r new
