use Rattle.std.proofs.Common.{◌≡◌, ◌-◌, ◌*◌, ◌≤◌}
use Rattle.lsm_table.specs.TableReading.{sum_at}
use Rattle.lsm_table.proofs.index.sum_index.Given as goal

abbrev pub invariant-loop-left : goal.invariant-loop-left
invariant-loop-left l = (l.left ≤ l.fn.blocks) × (l.total ≤ (l.fn.blocks - l.left) * 4294967295) × (sum_at l.fn.max_key l.fn.blocks 0 l.fn.index ≡ sum_at l.fn.max_key l.left l.total l.rest)

abbrev pub decreases-loop-left : goal.decreases-loop-left
decreases-loop-left l = l.left
