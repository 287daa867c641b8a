use Rattle.std.proofs.Common.{◌≡◌, ◌∙◌, ◌<◌, Option, Some, IfSome, length, ap, sym, subst}
use Rattle.lsm_edit.specs.declared.file.FileMeta.{FileMeta}
use Rattle.lsm_edit.specs.declared.served.Placed.{Placed}
use Rattle.lsm_edit.specs.Served.{IsAsRecorded, ServedValue}
use Rattle.lsm_follow.specs.Followers.{FollowerValue, PendingValue}
use Rattle.lsm_follow.specs.Pending.{IsFollower, IsPending, StandsAt}
use Rattle.lsm_follow.proofs.ReceivedTables.{is_of, missing_rises}
use Rattle.lsm_follow.proofs.TableSteps.{still_waits}
use Rattle.lsm_follow.proofs.follower.Follower.keep.Goals as goal

pub receive-requires-clause-rising : goal.receive-requires-clause-rising
receive-requires-clause-rising c =
    let s = c.args.self.now in
    let to : PendingValue = c.in-Some.pending in
    let seen : s.pending ≡ Some to = ap (λ (x : FollowerValue). x.pending) (sym c.self.view_is) ∙ c.in-Some.is in
    let is : IsPending s.served.version to = is_of s (subst IsFollower c.self.view_is c.self.invariant) to seen in
    missing_rises s.served.version to is.has is.version

pub invariant_of-self-2 : goal.invariant_of-self-2
invariant_of-self-2 c =
    let s = c.args.self.now in
    let to : PendingValue = c.in-Some.pending in
    let seen : s.pending ≡ Some to = ap (λ (x : FollowerValue). x.pending) (sym c.self.view_is) ∙ c.in-Some.is in
    let is = subst IsFollower c.self.view_is c.self.invariant in
    let asked = subst (λ (o : Option PendingValue). IfSome o (λ was. (1 < length was.missing) × ((f : FileMeta) × StandsAt was.missing c.args.at f × IsAsRecorded f c.args.table))) seen c.requires in
    let f = asked.1.0 in
    let stands = asked.1.1 in
    let p : Placed = record { meta = f; table = c.args.table } in
    let waits = still_waits s is to seen p c.args.at stands asked.1.2 asked.0 in
    subst (λ (t : ServedValue). IsPending t.version c.receive.new.self) (sym (ap (λ (x : FollowerValue). x.served) c.self.view_is)) (subst (IsPending s.served.version) (sym (c.in_ok-receive.ensures.ok f stands)) waits)
