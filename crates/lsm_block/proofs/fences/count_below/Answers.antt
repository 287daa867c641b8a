use Rattle.std.proofs.Common.{rules}
use Rattle.std.specs.Bool.{nat_lt}
use Rattle.std.proofs.lemmas.List.Sorted.{IsPartitionPoint-from_clause}
use Rattle.lsm_block.proofs.SoughtFences.{parted, point_of}
use Rattle.lsm_block.proofs.fences.count_below.Goals as goal

pub returns : goal.returns
returns c =
    let xs = c.args.prefixes.now in
    let p = c.args.prefix in
    point_of xs p c.partition_point.result (IsPartitionPoint-from_clause (λ n. nat_lt n p) xs c.partition_point.result c.partition_point.ensures.partitioned (parted xs p c.requires) (λ a r f k. search rules))
