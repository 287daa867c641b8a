use Rattle.std.proofs.Common.{◌≡◌, ◌∙◌, ◌≤◌, ◌<◌, Option, Some, IfSome, IfNone, length, ap, sym, subst, arith, inr}
use Rattle.std.proofs.lemmas.Result.{IfOk-weaker}
use Rattle.lsm_table.specs.Tables.{Opened}
use Rattle.lsm_edit.specs.declared.file.FileMeta.{FileMeta}
use Rattle.lsm_edit.specs.declared.served.Placed.{Placed}
use Rattle.lsm_edit.specs.Served.{IsAsRecorded}
use Rattle.lsm_follow.specs.Followers.{FollowerValue, FollowOutcome, PendingValue, TakesMissing}
use Rattle.lsm_follow.specs.Pending.{IsFollower, IsPending}
use Rattle.lsm_follow.proofs.ReceivedTables.{is_of, missing_rises}
use Rattle.lsm_follow.proofs.TableSteps.{same_there, takes_last, takes_more}
use Rattle.lsm_follow.proofs.follower.Follower.on_table.Goals as goal

pub find-requires : goal.find-requires
find-requires c =
    let s = c.args.self.now in
    let to : PendingValue = c.in-Some.pending in
    let seen : s.pending ≡ Some to = ap (λ (x : FollowerValue). x.pending) (sym c.self.view_is) ∙ c.in-Some.is in
    let is : IsPending s.served.version to = is_of s (subst IsFollower c.self.view_is c.self.invariant) to seen in
    missing_rises s.served.version to is.has is.version

pub returns-in_default-find-clause-ok : goal.returns-in_default-find-clause-ok
returns-in_default-find-clause-ok c =
    let s = c.args.self.now in
    let to : PendingValue = c.in-Some.pending in
    let seen : s.pending ≡ Some to = ap (λ (x : FollowerValue). x.pending) (sym c.self.view_is) ∙ c.in-Some.is in
    let is = subst IsFollower c.self.view_is c.self.invariant in
    let out : FollowOutcome = record { change = c.stay-in_default-find.result.0; sent = c.stay-in_default-find.result.1.items; follower = s } in
    subst (λ (o : Option PendingValue). TakesMissing s c.args.file c.args.bytes.now o out) (sym seen)
    (inr (λ p wanted. c.in_default-find.ensures.none p.meta wanted.file (wanted.number ∙ sym c.number.ensures), λ i. record { change = c.stay-in_default-find.ensures.change i; sent = c.stay-in_default-find.ensures.sent i; follower = s }))

pub returns-in_default-2-clause-ok : goal.returns-in_default-2-clause-ok
returns-in_default-2-clause-ok c =
    let s = c.args.self.now in
    let to : PendingValue = c.in-Some.pending in
    let seen : s.pending ≡ Some to = ap (λ (x : FollowerValue). x.pending) (sym c.self.view_is) ∙ c.in-Some.is in
    let is = subst IsFollower c.self.view_is c.self.invariant in
    let file = c.in-Some-find.meta.now in
    let stands = c.in-Some-find.ensures.some.0 in
    let number : file.number ≡ c.args.file = c.in-Some-find.ensures.some.1 ∙ c.number.ensures in
    let pending : IsPending s.served.version to = is_of s is to seen in
    let rises = missing_rises s.served.version to pending.has pending.version in
    let none = subst (λ (o : Option Opened). IfNone o ((t : Opened) → t.bytes ≡ c.args.bytes.now → IsAsRecorded file t → ⊥)) c.in_default-2.is c.in_ok-table.ensures.none in
    let out : FollowOutcome = record { change = c.stay-in_default-2.result.0; sent = c.stay-in_default-2.result.1.items; follower = s } in
    subst (λ (o : Option PendingValue). TakesMissing s c.args.file c.args.bytes.now o out) (sym seen)
    (inr (
      λ p wanted.
          let same = same_there to.missing c.in-Some-find.at file p.meta rises stands wanted.file (wanted.number ∙ sym number) in
          none p.table wanted.bytes (subst (λ (g : FileMeta). IsAsRecorded g p.table) same wanted.recorded),
      λ i. record { change = c.stay-in_default-2.ensures.change i; sent = c.stay-in_default-2.ensures.sent i; follower = s },
    ))

pub returns-then-len-gt1-clause-ok : goal.returns-then-len-gt1-clause-ok
returns-then-len-gt1-clause-ok c =
    let s = c.args.self.now in
    let to : PendingValue = c.in-Some.pending in
    let seen : s.pending ≡ Some to = ap (λ (x : FollowerValue). x.pending) (sym c.self.view_is) ∙ c.in-Some.is in
    let is = subst IsFollower c.self.view_is c.self.invariant in
    let file = c.in-Some-find.meta.now in
    let stands = c.in-Some-find.ensures.some.0 in
    let number : file.number ≡ c.args.file = c.in-Some-find.ensures.some.1 ∙ c.number.ensures in
    let p : Placed = record { meta = file; table = c.in-Some-2.table } in
    let opened = subst (λ (o : Option Opened). IfSome o (λ t. (t.bytes ≡ c.args.bytes.now) × IsAsRecorded file t)) c.in-Some-2.is c.in_ok-table.ensures.some in
    let left = ap (λ (x : PendingValue). length x.missing) c.pending.view_is in
    let many : 1 < length to.missing = omega (arith, c.if-len-gt1.true, c.len.ensures, left) in
    IfOk-weaker c.keep.result _ _ (λ r made. takes_more s is to seen p c.in-Some-find.at stands opened.1 many c.args.file c.args.bytes.now _ number opened.0 made) c.keep.ensures.ok

pub returns-clause-ok : goal.returns-clause-ok
returns-clause-ok c =
    let s = c.args.self.now in
    let to : PendingValue = c.in-Some.pending in
    let seen : s.pending ≡ Some to = ap (λ (x : FollowerValue). x.pending) (sym c.self.view_is) ∙ c.in-Some.is in
    let is = subst IsFollower c.self.view_is c.self.invariant in
    let file = c.in-Some-find.meta.now in
    let stands = c.in-Some-find.ensures.some.0 in
    let number : file.number ≡ c.args.file = c.in-Some-find.ensures.some.1 ∙ c.number.ensures in
    let p : Placed = record { meta = file; table = c.in-Some-2.table } in
    let opened = subst (λ (o : Option Opened). IfSome o (λ t. (t.bytes ≡ c.args.bytes.now) × IsAsRecorded file t)) c.in-Some-2.is c.in_ok-table.ensures.some in
    let left = ap (λ (x : PendingValue). length x.missing) c.pending.view_is in
    let few : length to.missing ≤ 1 = omega (arith, c.if-len-gt1.false, c.len.ensures, left) in
    IfOk-weaker c.finish.result _ _ (λ r made. takes_last s is to seen p c.in-Some-find.at stands opened.1 few c.args.file c.args.bytes.now _ number opened.0 made) c.finish.ensures.ok
