use Rattle.lsm_pick.specs.Reach.{Grows, IsReach, may_join, candidate_of}
use Rattle.lsm_pick.proofs.ClosureEnds.{outside}
use Rattle.lsm_pick.proofs.reach.closure.Given as goal

abbrev pub invariant-loop-reach : goal.invariant-loop-reach
invariant-loop-reach l =
    IsReach l.served.version.files (candidate_of l.first l.older_only) l.reach.lo.now l.reach.hi.now
    × Grows (candidate_of l.first l.older_only) l.served.places (may_join (candidate_of l.first l.older_only)) l.reach.lo.now l.reach.hi.now l.wider.lo.now l.wider.hi.now

abbrev pub decreases-loop-reach : goal.decreases-loop-reach
decreases-loop-reach l = outside l.reach.lo.now l.reach.hi.now l.served.version.files
