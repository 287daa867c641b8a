use Rattle.std.proofs.Common.{List, length}
use Rattle.lsm_key.specs.declared.entry.Entry.{Entry}
use Rattle.lsm_block.specs.Spans.{IsSpan}
use Rattle.lsm_block.proofs.SpanRanges.{Below}
use Rattle.lsm_block.proofs.ranges.lower_in.Given as goal

abbrev pub invariant-loop-lo : goal.invariant-loop-lo
invariant-loop-lo l = (es : List Entry) → IsSpan l.fn.bytes es → Below es l.lo l.rest

abbrev pub decreases-loop-lo : goal.decreases-loop-lo
decreases-loop-lo l = length l.rest
