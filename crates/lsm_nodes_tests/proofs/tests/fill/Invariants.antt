use Rattle.std.proofs.Common.{◌≡◌}
use Rattle.lsm_nodes_tests.proofs.tests.fill.Given as goal

abbrev pub invariant-loop-key : goal.invariant-loop-key
invariant-loop-key g l = l.tally.parts ≡ l.fn.tally.parts
