use Rattle.std.proofs.Common.{◌≡◌, ℕ, [], None}
use Rattle.lsm_merge.specs.Cutting.{IsSplitSoFar}
use Rattle.lsm_merge.specs.Filling.{IsFilling}
use Rattle.lsm_merge.specs.Walks.{left_to_merge}
use Rattle.lsm_merge.proofs.merging.fill.Given as goal

abbrev pub invariant-loop-entry : goal.invariant-loop-entry
invariant-loop-entry l = ((target : ℕ) → IsSplitSoFar target [] l.fn.outputs.closed.items l.fn.outputs.taking → IsFilling l.fn.walk l.walk target l.outputs.closed.items l.outputs.taking) × (l.walk.refused ≡ None)

abbrev pub decreases-loop-entry : goal.decreases-loop-entry
decreases-loop-entry l = left_to_merge l.walk.heads
