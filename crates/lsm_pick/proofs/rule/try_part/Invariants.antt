use Rattle.std.proofs.Common.{take}
use Rattle.std.specs.List.{flat_map}
use Rattle.lsm_pick.specs.After.{part_of_level}
use Rattle.lsm_pick.specs.Outcome.{HasOutcome}
use Rattle.lsm_pick.proofs.SameCandidates.{placed_candidates}
use Rattle.lsm_pick.proofs.rule.try_part.Given as goal

abbrev pub invariant-loop-placed : goal.invariant-loop-placed
invariant-loop-placed l = HasOutcome l.served.version.files l.live (flat_map placed_candidates (part_of_level l.level l.pointer l.above (take l.placed-index l.placed-items))) l.outcome
