use Rattle.std.proofs.Common.{length, ◌-◌, ◌≤◌}
use Rattle.std.specs.List.{AllWithin}
use Rattle.lsm_edit.specs.Search.{GoesOn}
use Rattle.lsm_edit.proofs.LevelSearch.{ShowsNone}
use Rattle.lsm_versions.specs.Cached.{HoldsAll}
use Rattle.lsm_versions.proofs.cached.value_through.Given as goal

abbrev pub invariant-loop-place : goal.invariant-loop-place
invariant-loop-place l = (l.from ≤ length l.served.places) × GoesOn l.served.places l.key l.from × AllWithin (ShowsNone l.key l.at) l.served.places 0 l.from × HoldsAll l.served.places l.cache

abbrev pub decreases-loop-place : goal.decreases-loop-place
decreases-loop-place l = length l.served.places - l.from
