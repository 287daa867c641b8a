-- the events so far ran, and their lines are written or wait to be
use Rattle.std.proofs.Common.{◌≡◌, ◌++◌}
use Rattle.lsm_sim.proofs.RunSteps.{IsSoFar}
use Rattle.lsm_sim.proofs.run.run.Given as goal

abbrev pub invariant-loop-event : goal.invariant-loop-event
invariant-loop-event g l = record {
  all : l.yielded ++ l.event-iterator.rest.items ≡ l.fn.events.items;
  so : IsSoFar l.fn.world.nodes l.world.nodes l.yielded (g.W.Write.contents l.fn.writer) (g.W.Write.contents l.writer) l.out.items;
}
