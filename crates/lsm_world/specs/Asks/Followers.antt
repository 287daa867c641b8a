-- What a follower does with a message, what it asks and reads, and what a restart makes of it (RocksDB wiki, Read-only and secondary
-- instances: a follower serves a version of the primary's, and catches up).
use Rattle.std.specs.Prelude.{◌≡◌, ℕ, List, Option, Some}
use Rattle.std.specs.Option.{option_and_then}
use Rattle.lsm_key.specs.Places.{first_visible}
use Rattle.lsm_key.specs.Visible.{entry_value}
use Rattle.lsm_edit.specs.Served.{tables_of}
use Rattle.lsm_follow.specs.declared.change.FollowChange.{FollowChange}
use Rattle.lsm_follow.specs.declared.change.FollowChange.TheVariants as follow
use Rattle.lsm_follow.specs.Followers.{FollowerValue, TakesBody, FollowOutcome, new_follower}
use Rattle.lsm_msg.specs.declared.message.Body.{Body}
use Rattle.lsm_msg.specs.declared.message.Body.TheVariants as body
use Rattle.lsm_msg.specs.declared.message.Message.{Message}
use Rattle.lsm_msg.specs.declared.node.Node.TheVariants.{Follower}
use Rattle.lsm_msg.specs.Messages.{to_coordinator}
use Rattle.lsm_world.specs.declared.reply.Reply.{Reply}
use Rattle.lsm_world.specs.declared.reply.Reply.TheVariants as reply
use Rattle.lsm_world.specs.declared.reply.Sent.{Sent}
use Rattle.lsm_world.specs.Nodes.{NetworkValue, at_index, with_index}
use Rattle.lsm_world.specs.Asks.Messages.{Sends}

-- the reply to a message that reached a follower, by what the message changed there
abbrev pub follower_reply : FollowChange → Sent → Reply
follower_reply (follow.Waiting missing) told = reply.Waiting missing told
follower_reply (follow.Version number) told = reply.Advanced number
follower_reply follow.Dropped told = reply.Dropped
follower_reply follow.Current told = reply.Current
follower_reply follow.Ignored told = reply.Ignored

-- the follower of this index does with the message what a follower does, and what it sends is stored or lost
pub record IsFollowed (old : NetworkValue) (index : ℕ) (said : Body) (r : Reply) (new : NetworkValue) : Type 0 where
  pub follower : FollowerValue
  pub is_there : at_index old.followers index ≡ Some follower
  pub outcome : FollowOutcome
  pub follows : TakesBody follower said outcome
  pub told : Sent
  pub reply_is : r ≡ follower_reply outcome.change told
  pub sends : Sends old.messages outcome.sent told new.messages
  pub new_is : new ≡ record old { followers = with_index old.followers index outcome.follower; messages = new.messages }

-- the follower of this index is at version 0 again, whatever it had
abbrev pub ForgetsAll : NetworkValue → ℕ → NetworkValue → Type 0
ForgetsAll old index new = (f : FollowerValue) × (at_index old.followers index ≡ Some f) × (new ≡ record old { followers = with_index old.followers index (new_follower f.index) })

-- the question of a follower to the coordinator: what comes after its version
abbrev pub ask_message : FollowerValue → Message
ask_message f = to_coordinator (Follower f.index) (body.Ask f.served.version.number)

-- the value of a key in the tables of a follower's version, at the version's flushed sequence
abbrev pub looked_up : FollowerValue → List ℕ → Option (List ℕ)
looked_up f key = option_and_then entry_value (first_visible (tables_of f.served.places) key f.served.version.flushed)
