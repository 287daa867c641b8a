use Rattle.std.proofs.Common.{◌≡◌, ◌∙◌, Option, Some, None, false, refl, ap, sym, inl}
use Rattle.std.specs.Option.{is_some}
use Rattle.std.proofs.lemmas.Result.{IfOk-weaker}
use Rattle.lsm_edit.specs.Version.{VersionValue, after_apply, apply_fault}
use Rattle.lsm_follow.specs.Followers.{FollowerValue, turns_to}
use Rattle.lsm_follow.proofs.follower.Follower.on_edit.Goals as goal

is_none : {X : Type 0} (o : Option X) → false ≡ is_some o → o ≡ None
is_none None e = refl
is_none (Some x) e = absurd cc

pub returns-clause-ok : goal.returns-clause-ok
returns-clause-ok c =
    let s = c.args.self.now in
    let e = c.args.edit.now in
    let version = ap (λ (x : FollowerValue). x.served.version) c.self.view_is in
    let none : apply_fault s.served.version e ≡ None = sym (c.fault_of.ensures.fault ∙ ap (λ (v : VersionValue). apply_fault v e) (c.version.ensures ∙ version)) ∙ is_none c.fault_of.result c.if-is_some.ensures in
    let target : c.apply_valid.new.self ≡ after_apply s.served.version e = c.in_ok-apply_valid.ensures.ok ∙ ap (λ (v : VersionValue). after_apply v e) (c.in_ok-target.ensures ∙ c.version-2.ensures ∙ version) in
    IfOk-weaker c.turn_to.result _ _ (λ r made. inl (c.if-not-is_valid.ensures.0 refl, none, made ∙ ap (turns_to s) target)) c.turn_to.ensures.ok
