use Rattle.std.proofs.Common.{◌≡◌, ◌-◌}
use Rattle.lsm_edit.proofs.ItemsInTurn.{after_these}
use Rattle.lsm_msg.specs.MessageReading.{each_at, range_at}
use Rattle.lsm_msg.proofs.reading.job.read_each_range.Given as goal

abbrev pub invariant-loop-place : goal.invariant-loop-place
invariant-loop-place l = each_at (range_at l.max_key) l.count l.fn.rest ≡ after_these l.ranges (each_at (range_at l.max_key) (l.count - l._place) l.rest)
