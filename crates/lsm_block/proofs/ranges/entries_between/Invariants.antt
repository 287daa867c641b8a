use Rattle.std.proofs.Common.{List, length}
use Rattle.lsm_key.specs.declared.entry.Entry.{Entry}
use Rattle.lsm_block.specs.Spans.{IsSpan}
use Rattle.lsm_block.proofs.RangeLoops.{Gathers}
use Rattle.lsm_block.proofs.ranges.entries_between.Given as goal

abbrev pub invariant-loop-hi : goal.invariant-loop-hi
invariant-loop-hi l = (es : List Entry) → IsSpan l.fn.bytes es → Gathers es l.fn.lo l.hi l.entries.items l.rest

abbrev pub decreases-loop-hi : goal.decreases-loop-hi
decreases-loop-hi l = length l.rest
