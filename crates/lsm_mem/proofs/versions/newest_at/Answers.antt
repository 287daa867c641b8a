use Rattle.std.proofs.Common.{◌≡◌, true, false, ℕ, ◌<◌, sym, arith, rules}
use Rattle.std.specs.List.Sorted.{IsPartitionPoint}
use Rattle.std.proofs.lemmas.List.Sorted.{IsPartitionPoint-from_clause}
use Rattle.lsm_mem.specs.Chains.{is_written}
use Rattle.lsm_mem.proofs.VersionOrder.{latest_none, latest_at, written_first}
use Rattle.lsm_mem.proofs.versions.newest_at.Goals as goal

pub returns-then-place-eq0 : goal.returns-then-place-eq0
returns-then-place-eq0 c =
    let vs = c.args.versions.now in
    let at : ℕ = c.args.at in
    let part : IsPartitionPoint (λ y. is_written at y ≡ true) (λ y. is_written at y ≡ false) vs c.partition_point-place.result = IsPartitionPoint-from_clause (is_written at) vs c.partition_point-place.result c.partition_point-place.ensures.partitioned (written_first at vs c.requires) (λ a r q k. search rules) in
    sym (latest_none vs at c.partition_point-place.result c.requires part c.if-place-eq0.true)

pub returns : goal.returns
returns c =
    let vs = c.args.versions.now in
    let at : ℕ = c.args.at in
    let i : ℕ = c.partition_point-place.result in
    let part : IsPartitionPoint (λ y. is_written at y ≡ true) (λ y. is_written at y ≡ false) vs i = IsPartitionPoint-from_clause (is_written at) vs i c.partition_point-place.ensures.partitioned (written_first at vs c.requires) (λ a r q k. search rules) in
    let some : 0 < i = omega arith in
    sym (latest_at vs at i c.requires part c.index-versions-place.result some c.partition_point-place.ensures.bound c.index-versions-place.is)
