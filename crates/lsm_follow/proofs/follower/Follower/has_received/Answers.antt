use Rattle.std.proofs.Common.{◌≡◌, ◌∙◌, ◌&&◌, Some, not, Bool, List, ap, sym, subst}
use Rattle.lsm_edit.specs.declared.file.FileMeta.{FileMeta}
use Rattle.lsm_edit.specs.Version.{FileNumbersRise, is_listed}
use Rattle.lsm_follow.specs.Followers.{FollowerValue, PendingValue}
use Rattle.lsm_follow.specs.Pending.{IsFollower, IsPending}
use Rattle.lsm_follow.proofs.ReceivedTables.{come_from, is_of, missing_rises}
use Rattle.lsm_follow.proofs.follower.Follower.has_received.Goals as goal

pub returns-then-not-lists : goal.returns-then-not-lists
returns-then-not-lists c =
    let s = c.args.self.now in
    let f = c.args.file.now in
    let to : PendingValue = c.in-Some.pending in
    let seen : s.pending ≡ Some to = ap (λ (x : FollowerValue). x.pending) (sym c.self.view_is) ∙ c.in-Some.is in
    let listed = c.if-not-lists.ensures ∙ ap (λ (p : PendingValue). is_listed p.target.files f) c.pending.view_is in
    ap (λ (b : Bool). b && not (is_listed to.missing f)) listed ∙ sym (come_from s (subst IsFollower c.self.view_is c.self.invariant) to seen f c.requires)

pub is_listed-requires : goal.is_listed-requires
is_listed-requires c =
    let s = c.args.self.now in
    let to : PendingValue = c.in-Some.pending in
    let seen : s.pending ≡ Some to = ap (λ (x : FollowerValue). x.pending) (sym c.self.view_is) ∙ c.in-Some.is in
    let is : IsPending s.served.version to = is_of s (subst IsFollower c.self.view_is c.self.invariant) to seen in
    subst FileNumbersRise (sym (c.as_slice.ensures.value ∙ ap (λ (p : PendingValue). p.missing) c.pending.view_is)) (missing_rises s.served.version to is.has is.version)

pub returns : goal.returns
returns c =
    let s = c.args.self.now in
    let f = c.args.file.now in
    let to : PendingValue = c.in-Some.pending in
    let seen : s.pending ≡ Some to = ap (λ (x : FollowerValue). x.pending) (sym c.self.view_is) ∙ c.in-Some.is in
    let listed = c.if-not-lists.ensures ∙ ap (λ (p : PendingValue). is_listed p.target.files f) c.pending.view_is in
    let left : c.is_listed.result ≡ is_listed to.missing f = c.is_listed.ensures ∙ ap (λ (fs : List FileMeta). is_listed fs f) (c.as_slice.ensures.value ∙ ap (λ (p : PendingValue). p.missing) c.pending.view_is) in
    ap not left ∙ ap (λ (b : Bool). b && not (is_listed to.missing f)) listed ∙ sym (come_from s (subst IsFollower c.self.view_is c.self.invariant) to seen f c.requires)
