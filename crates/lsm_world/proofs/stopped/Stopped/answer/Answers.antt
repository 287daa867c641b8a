-- A delivery goes to the receiver. What outlives the coordinator is as before.
use Rattle.lsm_world.specs.Inner.Stopping.{StoppedValue, down_store}
use Rattle.lsm_world.proofs.DownEvents.{down_keeps, other_asked_down}
use Rattle.lsm_world.proofs.NetworkSteps.{network_event_follows}
use Rattle.lsm_world.proofs.stopped.Stopped.answer.Goals as goal

pub returns-in-Deliver-clause-follows : goal.returns-in-Deliver-clause-follows
returns-in-Deliver-clause-follows g c = rw c.in-Deliver.is c.deliver.ensures.follows

-- ---- a worker or a follower

pub invariant_of-self : goal.invariant_of-self
invariant_of-self g c =
    let kept = down_keeps _ _ c.self-in-RestartWorker.inside.network c.answer.new.self c.answer.ensures.keeps (c.self-in-RestartWorker.invariant.1, c.self-in-RestartWorker.invariant.2) in
    (c.self-in-RestartWorker.invariant.0, kept.0, kept.1)

pub returns-in-RestartWorker-clause-asks : goal.returns-in-RestartWorker-clause-asks
returns-in-RestartWorker-clause-asks g c =
    let inside = c.self-in-RestartWorker.inside in
    let before : StoppedValue = record { stored = g.V.Vault.stored inside.vault; failures = g.V.Vault.failures inside.vault; book = inside.book; limits = inside.limits; desk = inside.desk; network = inside.network } in
    rw (← c.self-in-RestartWorker.view_is) (other_asked_down before c.answer.new.self c.answer.result c.args.event.now c.answer.ensures.own c.answer.ensures.asks)

pub returns-in-RestartWorker-clause-follows : goal.returns-in-RestartWorker-clause-follows
returns-in-RestartWorker-clause-follows g c =
    let inside = c.self-in-RestartWorker.inside in
    let before : StoppedValue = record { stored = g.V.Vault.stored inside.vault; failures = g.V.Vault.failures inside.vault; book = inside.book; limits = inside.limits; desk = inside.desk; network = inside.network } in
    rw (← c.self-in-RestartWorker.view_is)
    (network_event_follows (down_store before) c.answer.new.self c.args.event.now c.answer.result c.answer.ensures.own c.answer.ensures.sound c.answer.ensures.keeps c.answer.ensures.asks)
