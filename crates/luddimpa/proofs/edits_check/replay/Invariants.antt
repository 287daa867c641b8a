use Rattle.std.proofs.Common.{length}
use Rattle.luddimpa.specs.EditChecks.{Replays}
use Rattle.luddimpa.proofs.edits_check.replay.Given as goal

-- the edits that were taken make the version
abbrev pub invariant-loop-alloc : goal.invariant-loop-alloc
invariant-loop-alloc l = Replays l.edits l.version l.rest

abbrev pub decreases-loop-alloc : goal.decreases-loop-alloc
decreases-loop-alloc l = length l.rest
