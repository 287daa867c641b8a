-- The sums fit.
use Rattle.std.proofs.Common.{◌+◌, ◌<◌, ◌^◌}
use Rattle.lsm_timing.proofs.threads.role.add.Given as goal

abbrev pub invariant-loop-try : goal.invariant-loop-try
invariant-loop-try g l = (l.tally.parts + l.other.parts < 2 ^ 64) × (l.tally.picked + l.other.picked < 2 ^ 64)
