-- The records rise if those that are left do.
use Rattle.std.proofs.Common.{drop}
use Rattle.std.proofs.Math.Logic.{◌↔◌}
use Rattle.lsm_nodes.specs.Closing.{RisesAbove}
use Rattle.lsm_nodes.proofs.matching.rises.Given as goal

abbrev pub invariant-loop-record : goal.invariant-loop-record
invariant-loop-record l = RisesAbove l.last (drop l.record-index l.records) ↔ RisesAbove 0 l.records
