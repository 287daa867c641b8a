use Rattle.std.proofs.Common.{◌++◌, List, filter, map, arith, ap, ◌∙◌, flat_map, ◌-◌, ◌+◌}
use Rattle.std.specs.List.{range_with_len}
use Rattle.lsm_key.specs.declared.range.KeyRange.{KeyRange}
use Rattle.lsm_coord.specs.Contract.Picking.{range_of, touches_at}
use Rattle.lsm_coord.proofs.GatheredParts.{next_level_of}
use Rattle.lsm_coord.proofs.job.deeper_of.Goals as goal

pub loop-level-preserved : goal.loop-level-preserved
loop-level-preserved c =
    let level = c.loop-level.level in
    ap (λ (rs : List KeyRange). rs ++ map range_of (flat_map (λ l. filter (touches_at c.args.want.now.hull l) c.args.files.now) (range_with_len (level + 1) (7 - (level + 1))))) c.in_ok-push_ranges.ensures
    ∙ next_level_of range_of (λ l. filter (touches_at c.args.want.now.hull l) c.args.files.now) level c.loop-level.ranges.items (omega (arith, c.loop-level-test.true))
    ∙ c.loop-level.invariant
