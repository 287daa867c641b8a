use Rattle.std.proofs.Common.{◌≡◌, ◌++◌, [], drop}
use Rattle.lsm_merge.specs.Reaching.{with_raised_ends}
use Rattle.lsm_merge.proofs.deeper.widened.Given as goal

-- what was widened so far, and the rest from where those reach
abbrev pub invariant-loop-range : goal.invariant-loop-range
invariant-loop-range l = l.wide.items ++ with_raised_ends l.reach (drop l.range-index l.ranges) ≡ with_raised_ends [] l.ranges
