use Rattle.std.proofs.Common.{◌≡◌, ◌≤◌, ◌∙◌, inr, refl, rules, subst, sym}
use Rattle.lsm_coord.specs.declared.dispatcher.Dispatcher.TheVariants.{Busy, Idle}
use Rattle.lsm_coord.specs.Contract.Desks.{dispatcher_of, with_dispatcher}
use Rattle.lsm_coord.specs.Model.Event as say
use Rattle.lsm_world.specs.History.{History, IsHistory, IsResultOf}
use Rattle.lsm_world.specs.Inner.Handing.{desk_settled}
use Rattle.lsm_world.specs.Nodes.{NodesValue, nodes_of}
use Rattle.lsm_world.specs.Replies.{reply_of}
use Rattle.lsm_world.proofs.DispatcherEvents.{holds_it, install_asks, install_keeps, install_plain, install_told, same_job, sound_if_done}
use Rattle.lsm_world.proofs.QuietReplies.{install_quiet}
use Rattle.lsm_world.proofs.StoreSteps.{core_follows}
use Rattle.lsm_world.proofs.nodes.Nodes.install.Given.{Over}
use Rattle.lsm_world.proofs.nodes.Nodes.install.Goals as goal

-- the nodes as they were
abbrev before : (g : Over) → goal.After-settle g → NodesValue
before g c = nodes_of c.self.inside.coord c.self.inside.desk c.self.inside.network

busy : (g : Over) (c : goal.After-settle g) → dispatcher_of c.self.inside.desk c.args.dispatcher ≡ Busy c.in-Some.claim
busy g c = holds_it _ _ (sym c.take.ensures.claim ∙ c.in-Some.is)

same : (g : Over) (c : goal.After-settle g) → c.in-Some.claim.id ≡ c.args.made.now.job
same g c = same_job c.dispatcher.result.now c.in-Some.claim c.id.result c.args.made.now.job c.id.ensures (c.dispatcher.ensures ∙ busy g c) (search rules)

known : (g : Over) (c : goal.After-settle g) (h : History) → IsHistory h (before g c) → IsResultOf h c.args.made.now
known g c h is = c.requires.known h (subst (IsHistory h) c.self.view_is is)

pub invariant_of-self : goal.invariant_of-self
invariant_of-self g c =
    let k = c.self.invariant in
    let within : c.args.dispatcher ≤ 4 = search rules in
    let kept = install_keeps (before g c) _ _ _ _ c.args.dispatcher (busy g c) (same g c) c.install-became.ensures.became k.0 within c.know_fit.ensures k.1 (known g c k.0 k.1) c.know_fit-2.ensures c.install-became.ensures.sound in
    rw (c.settle.ensures.desk, c.take.ensures.idle) (kept.more, kept.known)

pub returns-clause-asks : goal.returns-clause-asks
returns-clause-asks g c =
    let k = c.self.invariant in
    let within : c.args.dispatcher ≤ 4 = search rules in
    rw (← c.self.view_is, c.settle.ensures.desk, c.take.ensures.idle)
    (inr (install_asks (before g c) _ _ _ _ c.args.dispatcher (busy g c) (same g c) c.install-became.ensures.became k.0 within c.know_fit.ensures k.1 _ c.settle.ensures.reply))

pub returns-clause-follows : goal.returns-clause-follows
returns-clause-follows g c =
    let k = c.self.invariant in
    let within : c.args.dispatcher ≤ 4 = search rules in
    let done = sound_if_done (before g c) _ _ _ _ c.args.dispatcher (busy g c) (same g c) c.install-became.ensures.became k.0 within c.know_fit.ensures k.1 (known g c k.0 k.1) in
    rw (← c.self.view_is, c.settle.ensures.desk, c.take.ensures.idle) (λ number.
    core_follows (before g c) (nodes_of c.install-became.new.self (desk_settled (with_dispatcher c.self.inside.desk c.args.dispatcher Idle) c.args.dispatcher c.install-became.result) c.self.inside.network) (say.Deliver number) (reply_of c.settle.result)
    (rw (c.settle.ensures.reply, install_told c.install-became.result) (c.install-became.ensures.step number done))
    (λ h is. install_keeps (before g c) _ _ _ _ c.args.dispatcher (busy g c) (same g c) c.install-became.ensures.became h within c.know_fit.ensures is (known g c h is) c.know_fit-2.ensures c.install-became.ensures.sound)
    refl (rw c.settle.ensures.reply (install_quiet number c.install-became.result)))

pub returns-clause-plain : goal.returns-clause-plain
returns-clause-plain g c =
    let k = c.self.invariant in
    let within : c.args.dispatcher ≤ 4 = search rules in
    rw c.settle.ensures.reply (install_plain (before g c) _ _ _ _ c.args.dispatcher (busy g c) (same g c) c.install-became.ensures.became k.0 within c.know_fit.ensures k.1 (known g c k.0 k.1))
