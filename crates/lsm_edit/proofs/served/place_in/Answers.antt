use Rattle.std.proofs.Common.{rules}
use Rattle.std.proofs.lemmas.List.Sorted.{IsPartitionPoint-from_clause}
use Rattle.lsm_edit.specs.Served.{comes_left}
use Rattle.lsm_edit.proofs.LevelSearch.{partitioned}
use Rattle.lsm_edit.proofs.served.place_in.Goals as goal

pub returns-clause-point : goal.returns-clause-point
returns-clause-point c =
    IsPartitionPoint-from_clause (comes_left c.args.level c.args.key.now) c.args.places.now c.partition_point.result c.partition_point.ensures.partitioned
    (partitioned c.args.places.now c.args.level c.args.key.now c.requires.deeper c.requires.recorded c.requires.ordered) (λ a r f k. search rules)
