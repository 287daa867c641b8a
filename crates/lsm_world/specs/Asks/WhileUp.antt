-- Which node each event asks while the coordinator is up.
use Rattle.std.specs.Prelude.{◌≡◌, ◌⊎◌}
use Rattle.lsm_world.specs.declared.event.Event.{Event}
use Rattle.lsm_world.specs.declared.event.Event.TheVariants as event
use Rattle.lsm_world.specs.declared.reply.Reply.{Reply}
use Rattle.lsm_world.specs.Nodes.{NodesValue}
use Rattle.lsm_world.specs.Asks.Coordinator.{Calls}
use Rattle.lsm_world.specs.Asks.Deliveries.{DeliversAt}
use Rattle.lsm_world.specs.Asks.Dispatchers.{Dispatches, GivesUp}
use Rattle.lsm_world.specs.Asks.Network.{AsksNetwork}
use Rattle.lsm_world.specs.Memory.{LacksMemory}

-- a worker or a follower is asked; the coordinator and its dispatchers stay as they are
abbrev pub AsksOther : NodesValue → Event → Reply → NodesValue → Type 0
AsksOther old e r new = AsksNetwork old.network e r new.network × (new ≡ record old { network = new.network })

-- A pick or a give-up asks a dispatcher, a delivery the receiver of its message, and the events of a worker or a follower ask that one. All
-- others are calls of the coordinator, which change nothing else.
abbrev pub AsksNode : NodesValue → Event → Reply → NodesValue → Type 0
AsksNode old (event.Pick d) r new = Dispatches old d r new
AsksNode old (event.GiveUp d) r new = GivesUp old d r new
AsksNode old (event.Deliver number) r new = DeliversAt old number r new
AsksNode old (event.RestartWorker index) r new = AsksOther old (event.RestartWorker index) r new
AsksNode old (event.RestartFollower index) r new = AsksOther old (event.RestartFollower index) r new
AsksNode old (event.Ask index) r new = AsksOther old (event.Ask index) r new
AsksNode old (event.Read index key) r new = AsksOther old (event.Read index key) r new
AsksNode old (event.ShowFollower index) r new = AsksOther old (event.ShowFollower index) r new
AsksNode old e r new = Calls old.core e r new.core × (new ≡ record old { core = new.core })

-- the event asks its node, or memory runs out, which changes nothing
abbrev pub Asks : NodesValue → Event → Reply → NodesValue → Type 0
Asks old e r new = LacksMemory old r new ⊎ AsksNode old e r new
