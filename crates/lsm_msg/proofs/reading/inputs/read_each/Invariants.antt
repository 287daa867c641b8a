use Rattle.std.proofs.Common.{◌≡◌}
use Rattle.lsm_edit.proofs.ItemsInTurn.{after_these}
use Rattle.lsm_msg.specs.MessageReading.{each_input_at}
use Rattle.lsm_msg.proofs.reading.inputs.read_each.Given as goal

abbrev pub invariant-loop-left : goal.invariant-loop-left
invariant-loop-left l = (each_input_at l.max_key l.fn.left.left l.fn.left l.fn.rest ≡ after_these l.files (each_input_at l.max_key l.left.left l.left l.rest)) × (l.left.level ≡ l.fn.left.level)

abbrev pub decreases-loop-left : goal.decreases-loop-left
decreases-loop-left l = l.left.left
