use Rattle.std.proofs.Common.{◌≡◌, ◌-◌, ◌^◌}
use Rattle.lsm_edit.specs.Edit.{numbers_at}
use Rattle.lsm_edit.proofs.ItemsInTurn.{after_these}
use Rattle.lsm_msg.specs.declared.fault.MsgFault.TheVariants.{Truncated, BadField}
use Rattle.lsm_msg.proofs.reading.job.read_each_point.Given as goal

abbrev pub invariant-loop-place : goal.invariant-loop-place
invariant-loop-place l = numbers_at Truncated BadField (2 ^ 56 - 1) l.count 0 l.fn.rest ≡ after_these l.points (numbers_at Truncated BadField (2 ^ 56 - 1) (l.count - l._place) l.least l.rest)
