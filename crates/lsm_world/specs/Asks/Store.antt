-- What each event makes of a store, whether its coordinator is up or down, and what a restart of the coordinator makes of it.
use Rattle.std.specs.Prelude.{◌≡◌, ◌⊎◌, Option, None, Some, Result, Ok, Err}
use Rattle.lsm_versions.specs.declared.error.OpenError.{OpenError}
use Rattle.lsm_coord.specs.Contract.Restarts.{Restarts}
use Rattle.lsm_coord.specs.Contract.Value.{CoordValue}
use Rattle.lsm_world.specs.declared.event.Event.{Event}
use Rattle.lsm_world.specs.declared.event.Event.TheVariants as event
use Rattle.lsm_world.specs.declared.refusal.Refusal.TheVariants as why
use Rattle.lsm_world.specs.declared.reply.Reply.{Reply}
use Rattle.lsm_world.specs.declared.reply.Reply.TheVariants as reply
use Rattle.lsm_world.specs.Nodes.{NodesValue, StoreValue, nodes_with, up_store}
use Rattle.lsm_world.specs.Asks.WhileDown.{AsksDown}
use Rattle.lsm_world.specs.Asks.WhileUp.{AsksNode}
use Rattle.lsm_world.specs.Memory.{LacksMemory}

-- the reply of a coordinator that is up again: its epoch, its version and its last sequence
abbrev pub restarted_as : Option CoordValue → Reply
restarted_as (Some c) = reply.Restarted c.served.version.epoch c.served.version.number c.last
restarted_as None = reply.Ignored

-- the reply to a restart: that of the coordinator, or why its vault is refused
abbrev pub restart_answer : Result (Unit {0}) OpenError → Option CoordValue → Reply
restart_answer (Ok done) core = restarted_as core
restart_answer (Err refused) core = reply.Refused (why.Open refused)

-- The coordinator is opened over what its vault has. The other nodes and the messages stay, and claims that dispatchers hold are stale.
abbrev pub RestartsCoordinator : StoreValue → Reply → StoreValue → Type 0
RestartsCoordinator old r new =
    (opened : Result (Unit {0}) OpenError) × Restarts old.seat opened new.seat × (r ≡ restart_answer opened new.seat.core) × (new ≡ record old { seat = new.seat })

-- A restart of the coordinator opens its vault, whether it is up or down. Any other event asks its node, as `WhileUp` or `WhileDown` says.
abbrev pub AsksBy : Option CoordValue → StoreValue → Event → Reply → StoreValue → Type 0
AsksBy core old event.RestartCoordinator r new = RestartsCoordinator old r new
AsksBy (Some c) old e r new = (n : NodesValue) × AsksNode (nodes_with c old) e r n × (new ≡ up_store n)
AsksBy None old e r new = AsksDown old e r new

-- the event asks its node, or memory runs out, which changes nothing
abbrev pub AsksStore : StoreValue → Event → Reply → StoreValue → Type 0
AsksStore old e r new = LacksMemory old r new ⊎ AsksBy old.seat.core old e r new

-- an event that is not taken changes nothing; each other one asks its node
abbrev pub AsksIfTaken : StoreValue → Event → Reply → StoreValue → Type 0
AsksIfTaken old e (reply.Refused why.NotTaken) new = new ≡ old
AsksIfTaken old e r new = AsksStore old e r new
