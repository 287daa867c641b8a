use Rattle.std.proofs.Common.{◌≡◌, List, length}
use Rattle.std.specs.List.{list_any}
use Rattle.lsm_key.specs.declared.entry.Entry.{Entry}
use Rattle.lsm_block.specs.Spans.{IsSpan}
use Rattle.lsm_merge.proofs.InputTests.{in_one}
use Rattle.lsm_merge.proofs.inputs.shares_entry.Given as goal

-- those that are left decide
abbrev pub invariant-loop-rest : goal.invariant-loop-rest
invariant-loop-rest l = (left : List Entry) × IsSpan l.rest left × (list_any (in_one l.later) l.table.entries ≡ list_any (in_one l.later) left)

abbrev pub decreases-loop-rest : goal.decreases-loop-rest
decreases-loop-rest l = length l.rest
