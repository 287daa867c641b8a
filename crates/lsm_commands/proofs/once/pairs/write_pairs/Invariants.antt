-- of the pairs that were given each has its line, and at most so many are asked for still
use Rattle.lsm_commands.proofs.RangeLines.{PairsSoFar}
use Rattle.lsm_commands.proofs.once.pairs.write_pairs.Given as goal

abbrev pub invariant-loop-left : goal.invariant-loop-left
invariant-loop-left g l = PairsSoFar l.store l.range (g.W.Write.contents l.fn.writer) l.pairs l.left l.out.items (g.W.Write.contents l.writer)

abbrev pub decreases-loop-left : goal.decreases-loop-left
decreases-loop-left g l = l.left
