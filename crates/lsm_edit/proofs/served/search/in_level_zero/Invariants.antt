use Rattle.std.proofs.Common.{length, ◌-◌, ◌≤◌}
use Rattle.std.specs.List.{AllWithin}
use Rattle.lsm_edit.specs.Search.{Misses}
use Rattle.lsm_edit.proofs.served.search.in_level_zero.Given as goal

abbrev pub invariant-loop-place : goal.invariant-loop-place
invariant-loop-place l = (l.from ≤ l.place) × (l.place ≤ length l.places) × AllWithin (Misses l.key) l.places l.from l.place

abbrev pub decreases-loop-place : goal.decreases-loop-place
decreases-loop-place l = length l.places - l.place
