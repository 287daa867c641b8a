use Rattle.std.proofs.Common.{◌≡◌, ◌∙◌, List, All, ap, sym, subst}
use Rattle.lsm_edit.specs.declared.file.FileMeta.{FileMeta}
use Rattle.lsm_edit.specs.File.{IsFile}
use Rattle.lsm_edit.specs.Served.{ServedValue}
use Rattle.lsm_follow.specs.Followers.{FollowerValue, PendingValue, pending_for}
use Rattle.lsm_follow.specs.Pending.{IsFollower, IsPending}
use Rattle.lsm_follow.proofs.ReceivedTables.{missing_files, pending_has}
use Rattle.lsm_follow.proofs.follower.Follower.wait_for.Goals as goal

pub fetches-requires : goal.fetches-requires
fetches-requires c =
    let s = c.args.self.now in
    let files = missing_files s.served.version (pending_for s c.args.target) (pending_has s (subst IsFollower c.self.view_is c.self.invariant) c.args.target) c.number-number.ensures.sound in
    subst (λ (fs : List FileMeta). All IsFile fs) (sym (c.as_slice.ensures.value ∙ c.requires.missing)) files

pub invariant_of-self : goal.invariant_of-self
invariant_of-self c =
    let s = c.args.self.now in
    let to : PendingValue = pending_for s c.args.target in
    let is : IsPending s.served.version to = record {
      version = c.number-number.ensures.sound;
      later = c.requires.later;
      has = pending_has s (subst IsFollower c.self.view_is c.self.invariant) c.args.target;
      some = λ none. c.requires.some (c.requires.missing ∙ none);
    } in
    let served : s.served ≡ c.self-2.inside.served = sym (ap (λ (x : FollowerValue). x.served) (c.self-2.view_is ∙ c.take_received-received.ensures.rest)) in
    subst (λ (t : ServedValue). IsPending t.version (record { target = c.args.target; missing = c.args.missing.items; received = c.take_received-received.result.items })) served
    (subst (IsPending s.served.version) (λ i. record { target = c.args.target; missing = sym c.requires.missing i; received = sym c.take_received-received.ensures.received i }) is)
