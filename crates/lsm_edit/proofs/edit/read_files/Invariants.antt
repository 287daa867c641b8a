use Rattle.std.proofs.Common.{◌≡◌, ◌-◌}
use Rattle.lsm_edit.specs.Edit.{files_at}
use Rattle.lsm_edit.proofs.ItemsInTurn.{after_these}
use Rattle.lsm_edit.proofs.edit.read_files.Given as goal

abbrev pub invariant-loop-place : goal.invariant-loop-place
invariant-loop-place g l = (files_at l.max_key l.short l.bad l.count l.fn.within l.fn.rest ≡ after_these l.files (files_at l.max_key l.short l.bad (l.count - l._place) l.within l.rest)) × (l.within.most ≡ l.fn.within.most)
