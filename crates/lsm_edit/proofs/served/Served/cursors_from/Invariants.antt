use Rattle.std.proofs.Common.{◌≡◌, All, filter}
use Rattle.lsm_key.specs.Order.{IsInOrder}
use Rattle.lsm_key.specs.Places.{all_entries}
use Rattle.lsm_edit.proofs.LevelCursors.{onward}
use Rattle.lsm_edit.proofs.LevelEntries.{is_over}
use Rattle.lsm_edit.proofs.served.Served.cursors_from.Given as goal

abbrev pub invariant-loop-level : goal.invariant-loop-level
invariant-loop-level l = (all_entries l.cursors.items ≡ onward l.lo (filter (is_over l.level) l.places)) × All IsInOrder l.cursors.items
