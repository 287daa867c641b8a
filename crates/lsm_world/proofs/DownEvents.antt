-- What a store answers while its coordinator is down is a step of what its vault shows.
use Rattle.std.proofs.Common.{◌≡◌, ◌⊎◌, ℕ, Bool, false, cond, List, Option, None, Some, refl, sym, ap, subst, ◌∙◌, inl, inr}
use Rattle.std.specs.Option.{option_map, option_or}
use Rattle.lsm_key.specs.declared.batch.KeyError.{KeyError}
use Rattle.lsm_key.specs.declared.op.Op.{Op}
use Rattle.lsm_key.specs.Limits.{batch_fault}
use Rattle.lsm_msg.specs.declared.message.Message.{Message}
use Rattle.lsm_msg.specs.declared.node.Node.{Node}
use Rattle.lsm_msg.specs.declared.node.Node.TheVariants.{Coordinator, Worker, Follower}
use Rattle.lsm_vault.specs.Stored.{VaultValue}
use Rattle.lsm_coord.specs.declared.dispatcher.Dispatcher.{Dispatcher}
use Rattle.lsm_coord.specs.Model.Event as say
use Rattle.lsm_coord.specs.Model.Rules.{key_refusal, unless_down, write_refusal}
use Rattle.lsm_coord.specs.Model.State.{State}
use Rattle.lsm_coord.specs.Model.Step.{Step}
use Rattle.lsm_world.specs.declared.event.Event.{Event}
use Rattle.lsm_world.specs.declared.event.Event.TheVariants as event
use Rattle.lsm_world.specs.declared.refusal.Refusal.TheVariants as why
use Rattle.lsm_world.specs.declared.reply.Reply.{Reply}
use Rattle.lsm_world.specs.declared.reply.Reply.TheVariants as reply
use Rattle.lsm_world.specs.Asks.Network.{AsksNetwork, DeliversOn}
use Rattle.lsm_world.specs.Asks.WhileDown.{AsksDown, AsksOtherDown, DeliversAtDown, DeliversDown, down_write}
use Rattle.lsm_world.specs.Memory.{LacksMemory}
use Rattle.lsm_world.specs.Events.{event_of}
use Rattle.lsm_world.specs.History.{History, IsDownHistory}
use Rattle.lsm_world.specs.Inner.Handing.{IsForCoordinator, IsOfNetwork, IsOther}
use Rattle.lsm_world.specs.Inner.Stopping.{StoppedValue, down_store}
use Rattle.lsm_world.specs.Inner.Working.{IsMessageAt, KeepsNetwork}
use Rattle.lsm_world.specs.Nodes.{NetworkValue, StoreValue}
use Rattle.lsm_world.specs.Replies.{reply_of}
use Rattle.lsm_world.specs.Schedules.{IsPlain}
use Rattle.lsm_world.specs.Shown.{FollowsStore}
use Rattle.lsm_world.proofs.DeliveredMessages.{passed_by_number}
use Rattle.lsm_world.proofs.NetworkSteps.{network_plain, receiver_plain}
use Rattle.lsm_world.proofs.RefusedBatches.{key_step}

-- ---- the history

-- WHAT KEEPS THE NETWORK KEEPS THE HISTORY.
pub down_keeps : (vault : VaultValue) (desk : List Dispatcher) (old new : NetworkValue) → KeepsNetwork old new → (h : History) × IsDownHistory h vault desk old → (h : History) × IsDownHistory h vault desk new
down_keeps vault desk old new keeps known =
    let is = known.1 in
    (known.0, record { files = is.files; jobs = is.jobs; begun = is.begun; claims = is.claims; network = keeps known.0 is.files.all is.jobs is.network })

-- ---- messages by number

pub delivers_down : (old : StoreValue) (m : Message) (new : StoreValue) (number : ℕ) (r : Reply) → IsMessageAt old.network.messages number m → DeliversDown old m m.dst r new → DeliversAtDown old number r new
delivers_down old m new number (reply.Refused why.NoMessage) at is = absurd (by m.dst is)
  where
    by : (dst : Node) → DeliversDown old m dst (reply.Refused why.NoMessage) new → ⊥
    by Coordinator not = let e = not.0 in cc
    by (Worker index) not = passed_by_number old.network m (Worker index) new.network not.0
    by (Follower index) not = passed_by_number old.network m (Follower index) new.network not.0
delivers_down old m new number r at is = (at.0, at.1, m, at.2, is)

-- ---- refusals

-- whatever else would be forced
forced_down : (s : State) (other : Option say.Refusal) → s.up ≡ false → unless_down s other ≡ Some say.Down
forced_down s other down = ap (λ (up : Bool). cond up other (Some say.Down)) down

module _ (s : State) (down : s.up ≡ false) where
  write_step : (ops : List Op) (o : Option KeyError) → batch_fault ops ≡ o → Step s (say.Write ops) (reply_of (reply.Refused (down_write o))) s
  write_step ops (Some e) fault = key_step s ops e fault
  write_step ops None fault = (inl (ap (λ (o : Option KeyError). option_or (option_map key_refusal o) (unless_down s (write_refusal s ops))) fault ∙ forced_down s (write_refusal s ops) down), refl)

  -- a write
  pub write_down_step : (ops : List Op) (r : Reply) → (r ≡ reply.Refused why.OutOfMemory) ⊎ (r ≡ reply.Refused (down_write (batch_fault ops))) → Step s (say.Write ops) (reply_of r) s
  write_down_step ops r (inl lacks) = subst (λ (q : Reply). Step s (say.Write ops) (reply_of q) s) (sym lacks) (tt, refl)
  write_down_step ops r (inr is) = subst (λ (q : Reply). Step s (say.Write ops) (reply_of q) s) (sym is) (write_step ops (batch_fault ops) refl)

  -- what is asked of the coordinator or a dispatcher
  pub refused_step : (e : Event) → IsForCoordinator e → Step s (event_of e) (reply_of (reply.Refused why.Down)) s
  refused_step (event.Write ops) other = absurd other
  refused_step (event.Deliver number) other = absurd other
  refused_step event.RestartCoordinator other = absurd other
  refused_step (event.RestartWorker index) other = absurd other
  refused_step (event.RestartFollower index) other = absurd other
  refused_step (event.Ask index) other = absurd other
  refused_step (event.Read index key) other = absurd other
  refused_step (event.ShowFollower index) other = absurd other
  refused_step e other = (inl (forced_down s _ down), refl)

  -- a message to the coordinator
  pub down_step : (number : ℕ) → Step s (say.Deliver number) (reply_of (reply.Refused why.Down)) s
  down_step number = (inr (refl, down), refl)

-- an answer that changes nothing
pub still_follows : (x : StoppedValue) (e : say.Event) (r : say.Reply) → ((s : State) → s.up ≡ false → Step s e r s) → FollowsStore (down_store x) e r (down_store x)
still_follows x e r step s shown = (s, step s shown.seat.down, shown)

-- ---- refusals that never come

key_plain : (o : Option KeyError) → IsPlain (reply.Refused (down_write o))
key_plain None = tt
key_plain (Some e) = tt

module _ (old new : StoreValue) where
  delivered_plain : (m : Message) (dst : Node) (r : Reply) → DeliversDown old m dst r new → IsPlain r
  delivered_plain m Coordinator r is = subst IsPlain (sym is.0) tt
  delivered_plain m (Worker index) r is = receiver_plain old.network new.network m (Worker index) r is.0
  delivered_plain m (Follower index) r is = receiver_plain old.network new.network m (Follower index) r is.0

  deliver_plain : (number : ℕ) (r : Reply) → DeliversAtDown old number r new → IsPlain r
  deliver_plain number (reply.Refused why.NoMessage) is = tt
  deliver_plain number r is = delivered_plain is.2 is.2.dst r is.4

  other_plain : (e : Event) (r : Reply) → AsksOtherDown old e r new → IsPlain r
  other_plain e r is = network_plain old.network new.network e r (inr is.0)

  answered_plain : (e : Event) (r : Reply) → AsksDown old e r new → IsPlain r
  answered_plain (event.Write ops) r is = subst IsPlain (sym is.0) (key_plain (batch_fault ops))
  answered_plain (event.Deliver number) r is = deliver_plain number r is
  answered_plain (event.RestartWorker index) r is = other_plain (event.RestartWorker index) r is
  answered_plain (event.RestartFollower index) r is = other_plain (event.RestartFollower index) r is
  answered_plain (event.Ask index) r is = other_plain (event.Ask index) r is
  answered_plain (event.Read index key) r is = other_plain (event.Read index key) r is
  answered_plain (event.ShowFollower index) r is = other_plain (event.ShowFollower index) r is
  answered_plain e r is = subst IsPlain (sym is.0) tt

  pub down_plain : (e : Event) (r : Reply) → LacksMemory old r new ⊎ AsksDown old e r new → IsPlain r
  down_plain e r (inl lacks) = subst IsPlain (sym lacks.0) tt
  down_plain e r (inr is) = answered_plain e r is

-- what is refused, the coordinator or a dispatcher was asked
pub refused_asks : (old : StoreValue) (e : Event) (r : Reply) → IsForCoordinator e → r ≡ reply.Refused why.Down → AsksDown old e r old
refused_asks old (event.Write ops) r other is = absurd other
refused_asks old (event.Deliver number) r other is = absurd other
refused_asks old event.RestartCoordinator r other is = absurd other
refused_asks old (event.RestartWorker index) r other is = absurd other
refused_asks old (event.RestartFollower index) r other is = absurd other
refused_asks old (event.Ask index) r other is = absurd other
refused_asks old (event.Read index key) r other is = absurd other
refused_asks old (event.ShowFollower index) r other is = absurd other
refused_asks old e r other is = (is, refl)

-- ---- workers and followers

module _ (x : StoppedValue) (new : NetworkValue) (r : Reply) where
  abbrev after : StoppedValue
  after = record x { network = new }

  by_event : (e : Event) → IsOfNetwork e → AsksOtherDown (down_store x) e r (down_store after) → AsksDown (down_store x) e r (down_store after)
  by_event (event.RestartWorker index) of is = is
  by_event (event.RestartFollower index) of is = is
  by_event (event.Ask index) of is = is
  by_event (event.Read index key) of is = is
  by_event (event.ShowFollower index) of is = is
  by_event e of is = absurd of

  -- one is asked
  pub other_asked_down : (e : Event) → IsOfNetwork e → LacksMemory x.network r new ⊎ AsksNetwork x.network e r new → LacksMemory (down_store x) r (down_store after) ⊎ AsksDown (down_store x) e r (down_store after)
  other_asked_down e of (inl lacks) = inl (lacks.0, ap (λ (n : NetworkValue). down_store (record x { network = n })) lacks.1)
  other_asked_down e of (inr is) = inr (by_event e of (is, refl))

  by_receiver : (m : Message) (dst : Node) → IsOther dst → DeliversOn x.network m dst r new → DeliversDown (down_store x) m dst r (down_store after)
  by_receiver m Coordinator other is = absurd other
  by_receiver m (Worker index) other is = (is, refl)
  by_receiver m (Follower index) other is = (is, refl)

  -- one gets a message
  pub passed_down : (m : Message) (dst : Node) → IsOther dst → LacksMemory x.network r new ⊎ DeliversOn x.network m dst r new → LacksMemory (down_store x) r (down_store after) ⊎ DeliversDown (down_store x) m dst r (down_store after)
  passed_down m dst other (inl lacks) = inl (lacks.0, ap (λ (n : NetworkValue). down_store (record x { network = n })) lacks.1)
  passed_down m dst other (inr is) = inr (by_receiver m dst other is)
