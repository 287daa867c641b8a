-- What is published last is the follower's version or an earlier one.
use Rattle.lsm_threads.specs.Following.{IsInStep}
use Rattle.lsm_timing.proofs.threads.follower.follow_until_over.Given as goal

abbrev pub invariant-loop : goal.invariant-loop
invariant-loop g l = IsInStep l.followed.0.served l.followed.1.taken
