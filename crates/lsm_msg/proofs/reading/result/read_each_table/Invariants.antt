use Rattle.std.proofs.Common.{◌≡◌, ◌-◌}
use Rattle.lsm_edit.proofs.ItemsInTurn.{after_these}
use Rattle.lsm_msg.specs.MessageReading.{each_at, sized_at}
use Rattle.lsm_msg.proofs.reading.result.read_each_table.Given as goal

abbrev pub invariant-loop-place : goal.invariant-loop-place
invariant-loop-place l = each_at sized_at l.count l.fn.rest ≡ after_these l.tables (each_at sized_at (l.count - l._place) l.rest)
