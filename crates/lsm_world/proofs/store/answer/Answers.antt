-- A restart takes the store from its place and puts another one there; any other event asks the nodes where they are.
use Rattle.std.proofs.Common.{sym, ◌∙◌}
use Rattle.lsm_world.specs.Inner.Stopping.{down_store}
use Rattle.lsm_world.proofs.CountedFailures.{nodes_counted}
use Rattle.lsm_world.proofs.DownEvents.{down_plain}
use Rattle.lsm_world.proofs.StoreEvents.{down_asks, no_restart, up_asks}
use Rattle.lsm_world.proofs.StoreFailures.{down_counted}
use Rattle.lsm_world.proofs.store.answer.Goals as goal

pub returns-in-Some-clause-follows : goal.returns-in-Some-clause-follows
returns-in-Some-clause-follows g c = rw (c.in-RestartCoordinator.is, sym c.take.ensures.value ∙ c.in-Some.is, c.put.ensures) c.restart-store.ensures.follows

pub returns-in-Some-Up-clause-asks : goal.returns-in-Some-Up-clause-asks
returns-in-Some-Up-clause-asks g c =
    rw (c.in-Some-Up.is, c.in-Some-Up.field-0-is) (up_asks c.in-Some-Up.nodes c.answer.new.self c.answer.result c.args.event.now (no_restart c.args.event.now c.in_default.not-RestartCoordinator) c.answer.ensures.asks)

pub returns-in-Some-Up-clause-follows : goal.returns-in-Some-Up-clause-follows
returns-in-Some-Up-clause-follows g c = rw (c.in-Some-Up.is, c.in-Some-Up.field-0-is) c.answer.ensures.follows

pub returns-in-Some-Up-clause-counted : goal.returns-in-Some-Up-clause-counted
returns-in-Some-Up-clause-counted g c = rw (c.in-Some-Up.is, c.in-Some-Up.field-0-is) (nodes_counted c.in-Some-Up.nodes c.answer.new.self c.args.event.now c.answer.result c.answer.ensures.asks)

pub returns-in-Some-Down-clause-asks : goal.returns-in-Some-Down-clause-asks
returns-in-Some-Down-clause-asks g c =
    let asked = c.answer-in-Some-Down in
    rw (c.in-Some-Down.is, c.in-Some-Down.field-0-is) (down_asks c.in-Some-Down.stopped asked.new.self asked.result c.args.event.now (no_restart c.args.event.now c.in_default.not-RestartCoordinator) asked.ensures.asks)

pub returns-in-Some-Down-clause-follows : goal.returns-in-Some-Down-clause-follows
returns-in-Some-Down-clause-follows g c = rw (c.in-Some-Down.is, c.in-Some-Down.field-0-is) c.answer-in-Some-Down.ensures.follows

pub returns-in-Some-Down-clause-plain : goal.returns-in-Some-Down-clause-plain
returns-in-Some-Down-clause-plain g c = let asked = c.answer-in-Some-Down in down_plain (down_store c.in-Some-Down.stopped) (down_store asked.new.self) c.args.event.now asked.result asked.ensures.asks

pub returns-in-Some-Down-clause-counted : goal.returns-in-Some-Down-clause-counted
returns-in-Some-Down-clause-counted g c =
    let asked = c.answer-in-Some-Down in
    rw (c.in-Some-Down.is, c.in-Some-Down.field-0-is) (down_counted (down_store c.in-Some-Down.stopped) (down_store asked.new.self) c.args.event.now asked.result asked.ensures.asks)
