-- Messages that are delivered by number: a message of the number was sent, and the reply never says that none has it.
use Rattle.std.proofs.Common.{◌≡◌, ℕ, ◌-◌, Bool, true, false, cond, List, None, Some}
use Rattle.std.specs.Prelude.{nat_eq}
use Rattle.lsm_key.specs.Sets.{IsIn}
use Rattle.lsm_msg.specs.declared.message.Body.{Body}
use Rattle.lsm_msg.specs.declared.message.Body.TheVariants as body
use Rattle.lsm_msg.specs.declared.message.Message.{Message}
use Rattle.lsm_msg.specs.declared.node.Node.{Node}
use Rattle.lsm_msg.specs.declared.node.Node.TheVariants.{Coordinator, Worker, Follower}
use Rattle.lsm_coord.specs.declared.coord.install.Install.{Install}
use Rattle.lsm_coord.specs.declared.coord.install.Install.TheVariants as became
use Rattle.lsm_follow.specs.declared.change.FollowChange.{FollowChange}
use Rattle.lsm_follow.specs.declared.change.FollowChange.TheVariants as follow
use Rattle.lsm_work.specs.declared.change.WorkChange.{WorkChange}
use Rattle.lsm_work.specs.declared.change.WorkChange.TheVariants as change
use Rattle.lsm_world.specs.declared.refusal.Refusal.TheVariants as why
use Rattle.lsm_world.specs.declared.reply.Reply.{Reply}
use Rattle.lsm_world.specs.declared.reply.Reply.TheVariants as reply
use Rattle.lsm_world.specs.declared.reply.Sent.{Sent}
use Rattle.lsm_world.specs.Asks.Deliveries.{Delivers, DeliversAt, Receives}
use Rattle.lsm_world.specs.Asks.Dispatchers.{dispatcher_reply}
use Rattle.lsm_world.specs.Asks.Followers.{follower_reply}
use Rattle.lsm_world.specs.Asks.Messages.{stored_message}
use Rattle.lsm_world.specs.Asks.Network.{DeliversOn}
use Rattle.lsm_world.specs.Asks.Workers.{worker_reply}
use Rattle.lsm_world.specs.Inner.Handing.{IsStored}
use Rattle.lsm_world.specs.Inner.Working.{IsMessageAt}
use Rattle.lsm_world.specs.Nodes.{NetworkValue, NodesValue, at_index}
use Rattle.lsm_world.proofs.FourPlaces.{in_place}

-- ---- numbers

pub text_stored : (messages : List (List ℕ)) (number : ℕ) (text : List ℕ) → stored_message messages number ≡ Some text → IsIn text messages
text_stored messages number text at = by (nat_eq number 0) at
  where
    by : (zero : Bool) → cond zero None (at_index messages number) ≡ Some text → IsIn text messages
    by true e = absurd cc
    by false e = in_place messages (number - 1) text e

-- a message under a number was sent
pub stored_at : (messages : List (List ℕ)) (number : ℕ) (m : Message) → IsMessageAt messages number m → IsStored messages m
stored_at messages number m at = (at.0, text_stored messages number at.0 at.1, at.2)

-- ---- replies

installs_by_number : (what : Install) → reply.Refused why.NoMessage ≡ dispatcher_reply what → ⊥
installs_by_number (became.Done number files) e = cc
installs_by_number (became.Stale job epoch) e = cc
installs_by_number (became.Kept claim error) e = cc

pub works_by_number : (what : WorkChange) (told : Sent) → reply.Refused why.NoMessage ≡ worker_reply what told → ⊥
works_by_number (change.Collecting missing) told e = cc
works_by_number change.Merged told e = cc
works_by_number change.Dropped told e = cc
works_by_number change.Ignored told e = cc

pub follows_by_number : (what : FollowChange) (told : Sent) → reply.Refused why.NoMessage ≡ follower_reply what told → ⊥
follows_by_number (follow.Waiting missing) told e = cc
follows_by_number (follow.Version number) told e = cc
follows_by_number follow.Dropped told e = cc
follows_by_number follow.Current told e = cc
follows_by_number follow.Ignored told e = cc

pub passed_by_number : (old : NetworkValue) (m : Message) (dst : Node) (new : NetworkValue) → DeliversOn old m dst (reply.Refused why.NoMessage) new → ⊥
passed_by_number old m Coordinator new is = is
passed_by_number old m (Worker index) new is = works_by_number is.outcome.change is.told is.reply_is
passed_by_number old m (Follower index) new is = follows_by_number is.outcome.change is.told is.reply_is

module _ (old : NodesValue) (m : Message) (new : NodesValue) where
  received_by_number : (src : Node) (said : Body) → Receives old m src said (reply.Refused why.NoMessage) new → ⊥
  received_by_number src (body.Fetch file) is = let e = is.3 in cc
  received_by_number src (body.Ask number) is = let e = is.3 in cc
  received_by_number (Worker d) (body.Result made) is = installs_by_number is.3 is.5
  received_by_number src said is = let e = is.0 in cc

  delivered_by_number : (dst : Node) → Delivers old m dst (reply.Refused why.NoMessage) new → ⊥
  delivered_by_number Coordinator is = received_by_number m.src m.body is
  delivered_by_number (Worker index) is = passed_by_number old.network m (Worker index) new.network is.0
  delivered_by_number (Follower index) is = passed_by_number old.network m (Follower index) new.network is.0

  pub delivers_at : (number : ℕ) (r : Reply) → IsMessageAt old.network.messages number m → Delivers old m m.dst r new → DeliversAt old number r new
  delivers_at number (reply.Refused why.NoMessage) at is = absurd (delivered_by_number m.dst is)
  delivers_at number r at is = (at.0, at.1, m, at.2, is)
