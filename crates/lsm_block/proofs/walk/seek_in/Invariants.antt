use Rattle.std.proofs.Common.{length}
use Rattle.lsm_block.proofs.SpanWalks.{Walks}
use Rattle.lsm_block.proofs.walk.seek_in.Given as goal

abbrev pub invariant-loop-key : goal.invariant-loop-key
invariant-loop-key l = Walks l.fn.bytes l.key l.at l.rest

abbrev pub decreases-loop-key : goal.decreases-loop-key
decreases-loop-key l = length l.rest
