use Rattle.std.proofs.Common.{◌≡◌, ◌∙◌, List, length, ap, sym, subst, arith}
use Rattle.lsm_edit.specs.declared.served.Placed.{Placed}
use Rattle.lsm_edit.specs.Served.{AreLacking, ServedValue}
use Rattle.lsm_edit.specs.Version.{is_listed}
use Rattle.lsm_follow.specs.Followers.{FollowerValue, pending_for, received_of}
use Rattle.lsm_follow.specs.Pending.{IsFollower}
use Rattle.lsm_follow.proofs.FilteredFiles.{filter_few}
use Rattle.lsm_follow.proofs.ReceivedTables.{all_come, pending_has}
use Rattle.lsm_follow.proofs.follower.Follower.move_to.Goals as goal

pub rebase-requires-clause-lacking : goal.rebase-requires-clause-lacking
rebase-requires-clause-lacking c =
    let s = c.args.self.now in
    let served : s.served ≡ c.self-2.inside.served = sym (ap (λ (x : FollowerValue). x.served) (c.self-2.view_is ∙ c.take_received-received.ensures.rest)) in
    let come = all_come s.served.version (pending_for s c.args.target) (pending_has s (subst IsFollower c.self.view_is c.self.invariant) c.args.target) c.requires.none in
    subst (λ (t : ServedValue). AreLacking t.version c.args.target c.take_received-received.result.items) served
    (subst (λ (ps : List Placed). AreLacking s.served.version c.args.target ps) (sym c.take_received-received.ensures.received) come)

pub rebase-requires-clause-room : goal.rebase-requires-clause-room
rebase-requires-clause-room c =
    let s = c.args.self.now in
    let after = ap (λ (x : FollowerValue). length x.served.places) (c.self-2.view_is ∙ c.take_received-received.ensures.rest) in
    let before = ap (λ (x : FollowerValue). length x.served.places) c.self.view_is in
    let few = filter_few (λ (p : Placed). is_listed c.args.target.files p.meta) (received_of s.pending) in
    omega (arith, after, before, few, ap length c.take_received-received.ensures.received, c.count_received.ensures, c.in_ok-room.ensures)
