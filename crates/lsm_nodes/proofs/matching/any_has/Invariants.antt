-- It stands in a list if it stands in one that is left; these rise.
use Rattle.std.proofs.Common.{drop}
use Rattle.std.proofs.Math.Logic.{◌↔◌}
use Rattle.lsm_key.specs.Sets.{IsIn}
use Rattle.lsm_nodes.specs.Closing.{AllRise}
use Rattle.lsm_nodes.specs.Tallies.{all_records, record_at}
use Rattle.lsm_nodes.proofs.matching.any_has.Given as goal

abbrev pub invariant-loop-records : goal.invariant-loop-records
invariant-loop-records l =
    AllRise (drop l.records-index l.lists)
    × (IsIn (record_at l.position l.exchange) (all_records (drop l.records-index l.lists)) ↔ IsIn (record_at l.position l.exchange) (all_records l.lists))
