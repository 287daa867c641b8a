-- What outlives the coordinator is as before.
use Rattle.std.proofs.Common.{◌⊎◌, subst, sym}
use Rattle.lsm_world.specs.Asks.WhileDown.{DeliversDown}
use Rattle.lsm_world.specs.Memory.{LacksMemory}
use Rattle.lsm_world.specs.Inner.Handing.{IsStored}
use Rattle.lsm_world.specs.Inner.Stopping.{StoppedValue, down_store}
use Rattle.lsm_world.proofs.DownEvents.{down_keeps, passed_down}
use Rattle.lsm_world.proofs.NetworkSteps.{network_delivery_follows}
use Rattle.lsm_world.proofs.stopped.Stopped.pass_on.Goals as goal

pub invariant_of-self : goal.invariant_of-self
invariant_of-self g c =
    let kept = down_keeps _ _ c.self.inside.network c.hand_over.new.self c.hand_over.ensures.keeps (c.self.invariant.1, c.self.invariant.2) in
    (c.self.invariant.0, kept.0, kept.1)

pub returns-clause-asks : goal.returns-clause-asks
returns-clause-asks g c =
    let before : StoppedValue = record { stored = g.V.Vault.stored c.self.inside.vault; failures = g.V.Vault.failures c.self.inside.vault; book = c.self.inside.book; limits = c.self.inside.limits; desk = c.self.inside.desk; network = c.self.inside.network } in
    let after : StoppedValue = record before { network = c.hand_over.new.self } in
    subst (λ (x : StoppedValue). LacksMemory (down_store x) c.hand_over.result (down_store after) ⊎ DeliversDown (down_store x) c.args.message.now c.args.message.now.dst c.hand_over.result (down_store after)) c.self.view_is
    (passed_down before c.hand_over.new.self c.hand_over.result c.args.message.now c.args.message.now.dst c.requires.other c.hand_over.ensures.delivers)

pub returns-clause-follows : goal.returns-clause-follows
returns-clause-follows g c =
    let before : StoppedValue = record { stored = g.V.Vault.stored c.self.inside.vault; failures = g.V.Vault.failures c.self.inside.vault; book = c.self.inside.book; limits = c.self.inside.limits; desk = c.self.inside.desk; network = c.self.inside.network } in
    let stored = subst (λ (x : StoppedValue). IsStored x.network.messages c.args.message.now) (sym c.self.view_is) c.requires.stored in
    rw (← c.self.view_is) (network_delivery_follows (down_store before) c.hand_over.new.self c.args.message.now c.hand_over.result stored c.hand_over.ensures.keeps c.hand_over.ensures.delivers)
