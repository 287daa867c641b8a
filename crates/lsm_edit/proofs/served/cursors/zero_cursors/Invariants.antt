use Rattle.std.proofs.Common.{drop, filter}
use Rattle.lsm_edit.proofs.CursorsOnward.{GathersOn}
use Rattle.lsm_edit.proofs.LevelEntries.{is_of}
use Rattle.lsm_edit.proofs.served.cursors.zero_cursors.Given as goal

abbrev pub invariant-loop-placed : goal.invariant-loop-placed
invariant-loop-placed l = GathersOn l.lo (filter (is_of 0) l.places) l.cursors.items (filter (is_of 0) (drop l.placed-index l.places))
