-- One node is asked while the coordinator is up, and the others stay as they are.
use Rattle.std.proofs.Common.{◌≡◌, ◌⊎◌, refl, ap, inl, inr}
use Rattle.lsm_msg.specs.declared.message.Message.{Message}
use Rattle.lsm_msg.specs.declared.node.Node.{Node}
use Rattle.lsm_msg.specs.declared.node.Node.TheVariants.{Coordinator, Worker, Follower}
use Rattle.lsm_coord.specs.Contract.Value.{CoordValue}
use Rattle.lsm_world.specs.declared.event.Event.{Event}
use Rattle.lsm_world.specs.declared.event.Event.TheVariants as event
use Rattle.lsm_world.specs.declared.reply.Reply.{Reply}
use Rattle.lsm_world.specs.Asks.Coordinator.{Calls}
use Rattle.lsm_world.specs.Asks.Deliveries.{Delivers}
use Rattle.lsm_world.specs.Asks.Network.{AsksNetwork, DeliversOn}
use Rattle.lsm_world.specs.Asks.WhileUp.{Asks, AsksNode, AsksOther}
use Rattle.lsm_world.specs.Memory.{LacksMemory}
use Rattle.lsm_world.specs.History.{History, IsHistory}
use Rattle.lsm_world.specs.Inner.Handing.{IsOfCoordinator, IsOfNetwork, IsOther}
use Rattle.lsm_world.specs.Inner.Working.{KeepsNetwork}
use Rattle.lsm_world.specs.Nodes.{NetworkValue, NodesValue}

-- WHAT KEEPS THE NETWORK KEEPS THE NODES.
pub network_keeps : (old : NodesValue) (new : NetworkValue) → KeepsNetwork old.network new → (h : History) × IsHistory h old → (h : History) × IsHistory h (record old { network = new })
network_keeps old new keeps known = let is = known.1 in (known.0, record { files = is.files; jobs = is.jobs; claims = is.claims; network = keeps known.0 is.files.all is.jobs.all is.network })

module _ (old : NodesValue) (new : NetworkValue) (r : Reply) where
  abbrev after : NodesValue
  after = record old { network = new }

  by_event : (e : Event) → IsOfNetwork e → AsksOther old e r after → AsksNode old e r after
  by_event (event.RestartWorker index) of is = is
  by_event (event.RestartFollower index) of is = is
  by_event (event.Ask index) of is = is
  by_event (event.Read index key) of is = is
  by_event (event.ShowFollower index) of is = is
  by_event e of is = absurd of

  -- one is asked
  pub other_asked : (e : Event) → IsOfNetwork e → LacksMemory old.network r new ⊎ AsksNetwork old.network e r new → Asks old e r after
  other_asked e of (inl lacks) = inl (lacks.0, ap (λ (n : NetworkValue). record old { network = n }) lacks.1)
  other_asked e of (inr is) = inr (by_event e of (is, refl))

  by_receiver : (m : Message) (dst : Node) → IsOther dst → DeliversOn old.network m dst r new → Delivers old m dst r after
  by_receiver m Coordinator other is = absurd other
  by_receiver m (Worker index) other is = (is, refl)
  by_receiver m (Follower index) other is = (is, refl)

  -- one gets a message
  pub passed_on : (m : Message) (dst : Node) → IsOther dst → LacksMemory old.network r new ⊎ DeliversOn old.network m dst r new → LacksMemory old r after ⊎ Delivers old m dst r after
  passed_on m dst other (inl lacks) = inl (lacks.0, ap (λ (n : NetworkValue). record old { network = n }) lacks.1)
  passed_on m dst other (inr is) = inr (by_receiver m dst other is)

module _ (old : NodesValue) (core : CoordValue) (r : Reply) where
  abbrev called : NodesValue
  called = record old { core = core }

  by_call : (e : Event) → IsOfCoordinator e → Calls old.core e r core → AsksNode old e r called
  by_call (event.Pick d) own is = absurd own
  by_call (event.GiveUp d) own is = absurd own
  by_call (event.Deliver number) own is = absurd own
  by_call event.RestartCoordinator own is = absurd own
  by_call (event.RestartWorker index) own is = absurd own
  by_call (event.RestartFollower index) own is = absurd own
  by_call (event.Ask index) own is = absurd own
  by_call (event.Read index key) own is = absurd own
  by_call (event.ShowFollower index) own is = absurd own
  by_call e own is = (is, refl)

  -- the coordinator is asked
  pub own_asked : (e : Event) → IsOfCoordinator e → LacksMemory old.core r core ⊎ Calls old.core e r core → Asks old e r called
  own_asked e own (inl lacks) = inl (lacks.0, ap (λ (c : CoordValue). record old { core = c }) lacks.1)
  own_asked e own (inr is) = inr (by_call e own is)
