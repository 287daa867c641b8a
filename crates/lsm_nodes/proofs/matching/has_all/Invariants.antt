-- All stand there if those that are left do.
use Rattle.std.proofs.Common.{◌+◌, ◌∷◌, drop}
use Rattle.std.proofs.Math.Logic.{◌↔◌}
use Rattle.lsm_nodes.specs.Closing.{AreAmong, records_from}
use Rattle.lsm_nodes.specs.Tallies.{all_records}
use Rattle.lsm_nodes.proofs.matching.has_all.Given as goal

abbrev pub invariant-loop-i : goal.invariant-loop-i
invariant-loop-i g l = AreAmong (records_from (l.i + 1) (drop l.i l.history)) (all_records (l.mine ∷ l.others)) ↔ AreAmong (records_from 1 l.history) (all_records (l.mine ∷ l.others))
