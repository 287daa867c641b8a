use Rattle.std.proofs.Common.{◌≡◌, ◌∙◌, Some, filter, ap, rules}
use Rattle.std.proofs.lemmas.Fn.{filter_same}
use Rattle.lsm_edit.specs.declared.served.Placed.{Placed}
use Rattle.lsm_edit.specs.Version.{is_listed}
use Rattle.lsm_follow.specs.Followers.{FollowerValue, PendingValue, received_of}
use Rattle.lsm_follow.proofs.follower.Follower.take_received.Goals as goal

pub returns-clause-received : goal.returns-clause-received
returns-clause-received c =
    let test = λ (p : Placed). is_listed c.args.target.now.files p.meta in
    let stay = filter_same _ test _ (λ x b f k. search rules) _ _ c.retain.ensures.filtered in
    let seen : Some c.in-Some.pending ≡ c.args.self.now.pending = c.in-Some.ensures.value ∙ ap (λ (x : FollowerValue). x.pending) c.self.view_is in
    stay ∙ ap (filter test) (ap (λ (p : PendingValue). p.received) c.pending.view_is ∙ ap received_of seen)
