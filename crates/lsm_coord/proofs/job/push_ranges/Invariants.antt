use Rattle.std.proofs.Common.{◌≡◌, ◌++◌, drop, map, filter}
use Rattle.lsm_coord.specs.Contract.Picking.{range_of, touches_at}
use Rattle.lsm_coord.proofs.job.push_ranges.Given as goal

abbrev pub invariant-loop-file : goal.invariant-loop-file
invariant-loop-file l =
    l.ranges.items ++ map range_of (filter (touches_at l.hull l.level) (drop l.file-index l.files)) ≡ l.fn.ranges.items ++ map range_of (filter (touches_at l.hull l.level) l.files)
