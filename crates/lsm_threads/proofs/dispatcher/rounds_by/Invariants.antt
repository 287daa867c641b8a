-- Each round settles at most one claim, and each that was followed by another installed its own.
use Rattle.lsm_nodes.specs.Tallies.{IsDispatched}
use Rattle.lsm_threads.specs.Rounds.{InstallsEach}
use Rattle.lsm_threads.proofs.dispatcher.rounds_by.Given as goal

abbrev pub invariant-loop-round : goal.invariant-loop-round
invariant-loop-round g l = record {
  dispatched : IsDispatched l.fn.tally l._round l.tally;
  each : InstallsEach l.fn.tally l._round l.tally;
}
