use Rattle.std.proofs.Common.{◌≡◌}
use Rattle.lsm_threads.proofs.run.fill.put_each.Given as goal

abbrev pub invariant-loop-value : goal.invariant-loop-value
invariant-loop-value g l = l.tally.parts ≡ l.fn.tally.parts
