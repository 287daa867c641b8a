-- The coordinator and its desk are as before.
use Rattle.std.proofs.Common.{◌⊎◌, subst, sym}
use Rattle.lsm_world.specs.Asks.Deliveries.{Delivers}
use Rattle.lsm_world.specs.Memory.{LacksMemory}
use Rattle.lsm_world.specs.Inner.Handing.{IsStored}
use Rattle.lsm_world.specs.Nodes.{NodesValue, nodes_of, up_store}
use Rattle.lsm_world.proofs.NetworkSteps.{delivery_plain, network_delivery_follows}
use Rattle.lsm_world.proofs.OtherNodes.{network_keeps, passed_on}
use Rattle.lsm_world.proofs.nodes.Nodes.pass_on.Goals as goal

pub invariant_of-self : goal.invariant_of-self
invariant_of-self g c = network_keeps (nodes_of c.self.inside.coord c.self.inside.desk c.self.inside.network) c.hand_over.new.self c.hand_over.ensures.keeps c.self.invariant

pub returns-clause-asks : goal.returns-clause-asks
returns-clause-asks g c =
    let before : NodesValue = nodes_of c.self.inside.coord c.self.inside.desk c.self.inside.network in
    let after : NodesValue = record before { network = c.hand_over.new.self } in
    subst (λ (n : NodesValue). LacksMemory n c.hand_over.result after ⊎ Delivers n c.args.message.now c.args.message.now.dst c.hand_over.result after) c.self.view_is
    (passed_on before c.hand_over.new.self c.hand_over.result c.args.message.now c.args.message.now.dst c.requires.other c.hand_over.ensures.delivers)

pub returns-clause-follows : goal.returns-clause-follows
returns-clause-follows g c =
    let stored = subst (λ (n : NodesValue). IsStored n.network.messages c.args.message.now) (sym c.self.view_is) c.requires.stored in
    rw (← c.self.view_is) (network_delivery_follows (up_store (nodes_of c.self.inside.coord c.self.inside.desk c.self.inside.network)) c.hand_over.new.self c.args.message.now c.hand_over.result stored c.hand_over.ensures.keeps c.hand_over.ensures.delivers)

pub returns-clause-plain : goal.returns-clause-plain
returns-clause-plain g c = delivery_plain c.self.inside.network c.hand_over.new.self c.args.message.now c.hand_over.result c.hand_over.ensures.delivers
