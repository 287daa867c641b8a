use Rattle.std.proofs.Common.{◌≤◌, All}
use Rattle.lsm_threads.proofs.run.follow.reads_of.Given as goal

abbrev pub invariant-loop-key : goal.invariant-loop-key
invariant-loop-key g l = All (λ read. l.fn.least ≤ read.at) l.reads.items
