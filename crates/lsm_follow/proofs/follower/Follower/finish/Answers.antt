use Rattle.std.proofs.Common.{◌≡◌, ◌∙◌, ◌≤◌, ◌∷◌, [], Option, Some, IfSome, unwrap_or, length, length-append, ap, sym, subst, arith}
use Rattle.lsm_edit.specs.declared.file.FileMeta.{FileMeta}
use Rattle.lsm_edit.specs.declared.served.Placed.{Placed}
use Rattle.lsm_edit.specs.Served.{AreLacking, IsAsRecorded, ServedValue}
use Rattle.lsm_follow.specs.Followers.{FollowerValue, PendingValue}
use Rattle.lsm_follow.specs.Pending.{IsFollower, StandsAt}
use Rattle.lsm_follow.proofs.ReceivedTables.{is_of, missing_rises}
use Rattle.lsm_follow.proofs.TableSteps.{last_comes}
use Rattle.lsm_follow.proofs.follower.Follower.finish.Goals as goal

pub receive-requires-clause-rising : goal.receive-requires-clause-rising
receive-requires-clause-rising c =
    let s = c.args.self.now in
    let to : PendingValue = c.in-Some.pending in
    let seen : s.pending ≡ Some to = ap (λ (x : FollowerValue). x.pending) (sym c.self.view_is) ∙ c.in-Some.is in
    let pending = is_of s (subst IsFollower c.self.view_is c.self.invariant) to seen in
    missing_rises s.served.version to pending.has pending.version

pub rebase-requires-clause-lacking : goal.rebase-requires-clause-lacking
rebase-requires-clause-lacking c =
    let s = c.args.self.now in
    let to : PendingValue = c.in-Some.pending in
    let seen : s.pending ≡ Some to = ap (λ (x : FollowerValue). x.pending) (sym c.self.view_is) ∙ c.in-Some.is in
    let is = subst IsFollower c.self.view_is c.self.invariant in
    let asked = subst (λ (o : Option PendingValue). IfSome o (λ was. (length was.missing ≤ 1) × ((f : FileMeta) × StandsAt was.missing c.args.at f × IsAsRecorded f c.args.table))) seen c.requires in
    let f = asked.1.0 in
    let stands = asked.1.1 in
    let p : Placed = record { meta = f; table = c.args.table } in
    let come = last_comes s is to seen p c.args.at stands asked.1.2 asked.0 in
    let taken : c.in-Some-take.pending ≡ c.receive.new.self = ap (λ (o : Option PendingValue). unwrap_or o c.receive.new.self) c.in-Some-take.ensures.value in
    let whole = c.pending-2.view_is ∙ taken ∙ c.in_ok-receive.ensures.ok f stands in
    subst (λ (t : ServedValue). AreLacking t.version c.pending-2.inside.target c.pending-2.inside.received.items) (sym (ap (λ (x : FollowerValue). x.served) c.self.view_is))
    (subst (λ (x : PendingValue). AreLacking s.served.version x.target x.received) (sym whole) come)

pub rebase-requires-clause-room : goal.rebase-requires-clause-room
rebase-requires-clause-room c =
    let s = c.args.self.now in
    let to : PendingValue = c.in-Some.pending in
    let seen : s.pending ≡ Some to = ap (λ (x : FollowerValue). x.pending) (sym c.self.view_is) ∙ c.in-Some.is in
    let is = subst IsFollower c.self.view_is c.self.invariant in
    let asked = subst (λ (o : Option PendingValue). IfSome o (λ was. (length was.missing ≤ 1) × ((f : FileMeta) × StandsAt was.missing c.args.at f × IsAsRecorded f c.args.table))) seen c.requires in
    let f = asked.1.0 in
    let stands = asked.1.1 in
    let p : Placed = record { meta = f; table = c.args.table } in
    let taken : c.in-Some-take.pending ≡ c.receive.new.self = ap (λ (o : Option PendingValue). unwrap_or o c.receive.new.self) c.in-Some-take.ensures.value in
    let whole = ap (λ (x : PendingValue). length x.received) (c.pending-2.view_is ∙ taken ∙ c.in_ok-receive.ensures.ok f stands) in
    let before = ap (λ (x : PendingValue). length x.received) c.pending.view_is in
    omega (arith, whole, before, length-append to.received (p ∷ []), c.len.ensures, c.in_ok-room.ensures)
