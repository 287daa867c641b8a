use Rattle.std.proofs.Common.{◌≡◌, ◌-◌}
use Rattle.lsm_edit.specs.Edit.{numbers_at}
use Rattle.lsm_edit.proofs.ItemsInTurn.{after_these}
use Rattle.lsm_edit.proofs.edit.read_numbers.Given as goal

abbrev pub invariant-loop-place : goal.invariant-loop-place
invariant-loop-place g l = numbers_at l.short l.bad l.most l.count l.fn.least l.fn.rest ≡ after_these l.numbers (numbers_at l.short l.bad l.most (l.count - l._place) l.least l.rest)
