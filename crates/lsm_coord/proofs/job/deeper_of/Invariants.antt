use Rattle.std.proofs.Common.{◌≡◌, ◌++◌, ◌-◌, map, filter, flat_map}
use Rattle.std.specs.List.{range_with_len}
use Rattle.lsm_coord.specs.Contract.Picking.{deeper_files, range_of, touches_at}
use Rattle.lsm_coord.proofs.job.deeper_of.Given as goal

abbrev pub invariant-loop-level : goal.invariant-loop-level
invariant-loop-level l = l.ranges.items ++ map range_of (flat_map (λ level. filter (touches_at l.want.hull level) l.files) (range_with_len l.level (7 - l.level))) ≡ map range_of (deeper_files l.files l.want)
