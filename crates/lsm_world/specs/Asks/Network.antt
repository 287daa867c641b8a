-- What workers and followers answer, and what they send: they need no coordinator, and work on while it is down.
use Rattle.std.specs.Prelude.{◌≡◌, [], ◌∷◌, Some}
use Rattle.lsm_follow.specs.Followers.{FollowerValue}
use Rattle.lsm_msg.specs.declared.message.Message.{Message}
use Rattle.lsm_msg.specs.declared.node.Node.{Node}
use Rattle.lsm_msg.specs.declared.node.Node.TheVariants.{Coordinator, Worker, Follower}
use Rattle.lsm_coord.specs.declared.answer.ShownVersion.{ShownVersion}
use Rattle.lsm_world.specs.declared.event.Event.{Event}
use Rattle.lsm_world.specs.declared.event.Event.TheVariants as event
use Rattle.lsm_world.specs.declared.reply.Reply.{Reply}
use Rattle.lsm_world.specs.declared.reply.Reply.TheVariants as reply
use Rattle.lsm_world.specs.declared.reply.Sent.{Sent}
use Rattle.lsm_world.specs.Nodes.{NetworkValue, at_index}
use Rattle.lsm_world.specs.Asks.Coordinator.{ListsVersion}
use Rattle.lsm_world.specs.Asks.Followers.{ForgetsAll, IsFollowed, ask_message, looked_up}
use Rattle.lsm_world.specs.Asks.Messages.{Sends}
use Rattle.lsm_world.specs.Asks.Workers.{IsWork, StartsAnew}

-- a message is delivered to the worker or the follower that it is for
abbrev pub DeliversOn : NetworkValue → Message → Node → Reply → NetworkValue → Type 0
DeliversOn old m Coordinator r new = ⊥
DeliversOn old m (Worker index) r new = IsWork old index m.body r new
DeliversOn old m (Follower index) r new = IsFollowed old index m.body r new

-- An event that is for a worker or a follower, with its reply: a restart of either; a follower asks, reads a key, or lists its version.
abbrev pub AsksNetwork : NetworkValue → Event → Reply → NetworkValue → Type 0
AsksNetwork old (event.RestartWorker index) r new = (r ≡ reply.RestartedWorker index) × StartsAnew old index new
AsksNetwork old (event.RestartFollower index) r new = (r ≡ reply.RestartedFollower index) × ForgetsAll old index new
AsksNetwork old (event.Ask index) r new =
    (f : FollowerValue) × (at_index old.followers index ≡ Some f)
    × (told : Sent) × (r ≡ reply.Asked told) × Sends old.messages (ask_message f ∷ []) told new.messages × (new ≡ record old { messages = new.messages })
AsksNetwork old (event.Read index key) r new = (f : FollowerValue) × (at_index old.followers index ≡ Some f) × (r ≡ reply.ReadAt f.served.version.number (looked_up f key)) × (new ≡ old)
AsksNetwork old (event.ShowFollower index) r new =
    (f : FollowerValue) × (at_index old.followers index ≡ Some f) × (v : ShownVersion) × ListsVersion f.served.version v × (r ≡ reply.Shown v) × (new ≡ old)
AsksNetwork old e r new = ⊥
