use Rattle.std.proofs.Common.{◌+◌}
use Rattle.lsm_pick.specs.Reach.{candidate_of}
use Rattle.lsm_pick.proofs.ReachWalks.{Walk}
use Rattle.lsm_pick.proofs.reach.with_next.Given as goal

abbrev pub invariant-loop-placed : goal.invariant-loop-placed
invariant-loop-placed l = Walk (candidate_of l.first l.older_only) l.served.places l.placed-items (l.first.level + 1) l.reach.lo.now l.reach.hi.now l.wider.lo.now l.wider.hi.now l.placed-index
