use Rattle.lsm_pick.specs.Reach.{candidate_of}
use Rattle.lsm_pick.proofs.ReachWalks.{Walk}
use Rattle.lsm_pick.proofs.reach.with_level_zero.Given as goal

abbrev pub invariant-loop-placed : goal.invariant-loop-placed
invariant-loop-placed l = Walk (candidate_of l.first l.older_only) l.places l.places 0 l.reach.lo.now l.reach.hi.now l.wider.lo.now l.wider.hi.now l.placed-index
