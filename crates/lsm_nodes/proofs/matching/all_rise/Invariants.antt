-- The lists rise if those that are left do.
use Rattle.std.proofs.Common.{drop}
use Rattle.std.proofs.Math.Logic.{◌↔◌}
use Rattle.lsm_nodes.specs.Closing.{AllRise}
use Rattle.lsm_nodes.proofs.matching.all_rise.Given as goal

abbrev pub invariant-loop-records : goal.invariant-loop-records
invariant-loop-records l = AllRise (drop l.records-index l.lists) ↔ AllRise l.lists
