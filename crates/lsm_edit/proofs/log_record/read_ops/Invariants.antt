use Rattle.std.proofs.Common.{◌≡◌, ◌-◌}
use Rattle.lsm_edit.specs.LogRecord.{ops_at}
use Rattle.lsm_edit.proofs.ItemsInTurn.{after_these}
use Rattle.lsm_edit.proofs.LogRecordLaws.{all_of}
use Rattle.lsm_edit.proofs.log_record.read_ops.Given as goal

abbrev pub invariant-loop-place : goal.invariant-loop-place
invariant-loop-place g l = (ops_at l.short l.bad l.count (all_of l.count) l.fn.rest ≡ after_these l.ops.items (ops_at l.short l.bad (l.count - l._place) l.left l.rest)) × (l.left.ops ≡ l.count - l._place)
