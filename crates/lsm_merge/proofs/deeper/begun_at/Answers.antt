use Rattle.std.proofs.Common.{rules}
use Rattle.std.proofs.lemmas.List.Sorted.{IsPartitionPoint-from_clause}
use Rattle.lsm_key.specs.Order.{key_le}
use Rattle.lsm_merge.proofs.DeeperKeys.{begun}
use Rattle.lsm_merge.proofs.deeper.begun_at.Goals as goal

pub returns-clause-point : goal.returns-clause-point
returns-clause-point c =
    IsPartitionPoint-from_clause (λ r. key_le r.lo c.args.key.now) c.args.ranges.now c.partition_point.result c.partition_point.ensures.partitioned (begun c.args.ranges.now c.args.key.now c.requires) (λ a r f k. search rules)
