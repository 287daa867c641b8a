use Rattle.std.proofs.Common.{length, ◌-◌, ◌≤◌}
use Rattle.std.specs.List.{AllWithin}
use Rattle.lsm_edit.specs.Search.{GoesOn}
use Rattle.lsm_edit.proofs.LevelSearch.{ShowsNone}
use Rattle.lsm_edit.proofs.served.search.first_in.Given as goal

abbrev pub invariant-loop-place : goal.invariant-loop-place
invariant-loop-place l = (l.from ≤ length l.places) × GoesOn l.places l.key l.from × AllWithin (ShowsNone l.key l.at) l.places 0 l.from

abbrev pub decreases-loop-place : goal.decreases-loop-place
decreases-loop-place l = length l.places - l.from
