use Rattle.std.proofs.Common.{rules}
use Rattle.std.proofs.lemmas.List.Sorted.{IsPartitionPoint-from_clause}
use Rattle.lsm_edit.proofs.PlaceSpots.{parted, put_there, stays_left}
use Rattle.lsm_edit.proofs.served.spot_of.Goals as goal

pub returns-clause-spot : goal.returns-clause-spot
returns-clause-spot c =
    let p = c.args.placed.now in
    let qs = c.args.places.now in
    put_there p qs c.partition_point.result c.partition_point.ensures.bound
    (IsPartitionPoint-from_clause (stays_left p) qs c.partition_point.result c.partition_point.ensures.partitioned (parted p qs c.requires) (λ a r f k. search rules))
