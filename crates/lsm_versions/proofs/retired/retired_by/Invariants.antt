use Rattle.std.proofs.Common.{◌≡◌, ◌++◌, drop, map, filter}
use Rattle.std.specs.List.{list_any}
use Rattle.lsm_edit.specs.Version.{has_number}
use Rattle.lsm_versions.specs.Retention.{retire, retired_by}
use Rattle.lsm_versions.proofs.retired.retired_by.Given as goal

abbrev pub invariant-loop-placed : goal.invariant-loop-placed
invariant-loop-placed l =
    l.retired.items ++ map (retire l.until) (filter (λ p. list_any (λ n. has_number n p.meta) l.removed) (drop l.placed-index l.placed-items))
    ≡ retired_by l.fn.served l.fn.edit.removed
