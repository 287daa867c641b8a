use Rattle.std.proofs.Common.{◌≡◌, ◌∙◌, Some, ap, sym, subst}
use Rattle.lsm_follow.specs.Followers.{FollowerValue, PendingValue}
use Rattle.lsm_follow.specs.Pending.{IsFollower, IsPending}
use Rattle.lsm_follow.proofs.ReceivedTables.{is_of, missing_rises}
use Rattle.lsm_follow.proofs.follower.Follower.on_gone.Goals as goal

pub lacks-requires : goal.lacks-requires
lacks-requires c =
    let s = c.args.self.now in
    let to : PendingValue = c.in-Some.pending in
    let seen : s.pending ≡ Some to = ap (λ (x : FollowerValue). x.pending) (sym c.self.view_is) ∙ c.in-Some.is in
    let is : IsPending s.served.version to = is_of s (subst IsFollower c.self.view_is c.self.invariant) to seen in
    missing_rises s.served.version to is.has is.version
