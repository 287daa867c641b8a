use Rattle.std.proofs.Common.{◌≡◌, ◌∙◌, ◌≤◌, None, inr, rules, subst, sym, refl}
use Rattle.lsm_coord.specs.declared.dispatcher.Dispatcher.TheVariants.{Busy, Idle}
use Rattle.lsm_coord.specs.Contract.Desks.{dispatcher_of, with_dispatcher}
use Rattle.lsm_coord.specs.Contract.Picking.{Picks}
use Rattle.lsm_coord.specs.Model.Event as say
use Rattle.lsm_store.proofs.Compactions.{picked_by, sound_by}
use Rattle.lsm_world.specs.declared.refusal.Refusal.TheVariants as why
use Rattle.lsm_world.specs.declared.reply.Reply.TheVariants as reply
use Rattle.lsm_world.specs.Nodes.{NodesValue, nodes_of}
use Rattle.lsm_world.specs.Replies.{reply_of}
use Rattle.lsm_world.proofs.DispatcherEvents.{is_busy, is_idle, pick_asks, pick_keeps}
use Rattle.lsm_world.proofs.StoreSteps.{core_follows, unchanged_follows}
use Rattle.lsm_world.proofs.nodes.Nodes.pick.Goals as goal

pub returns-then-is_some-clause-asks : goal.returns-then-is_some-clause-asks
returns-then-is_some-clause-asks g c =
    let busy = is_busy c.dispatcher.result.now c.id.result c.id.ensures (sym c.is_some.ensures ∙ c.if-is_some.true) in
    rw (← c.self.view_is) (inr ((busy.0, sym c.dispatcher.ensures ∙ busy.1), refl))

pub invariant_of-self-in-Ok-Some : goal.invariant_of-self-in-Ok-Some
invariant_of-self-in-Ok-Some g c =
    let idle : dispatcher_of c.self.inside.desk c.args.dispatcher ≡ Idle = sym c.dispatcher.ensures ∙ is_idle c.dispatcher.result.now c.id.result c.id.ensures (sym c.is_some.ensures ∙ c.if-is_some.false) in
    let picked = picked_by None None _ _ _ _ _ c.in-Ok-Some.field-0-is refl c.in-Ok-Some.ensures.ok in
    let sound = sound_by _ _ _ _ c.in-Ok-Some.field-0-is c.in-Ok-Some.ensures.job in
    let kept = pick_keeps _ _ _ _ _ idle picked _ _ c.hand_out.ensures.reply c.self.invariant.0 c.know_fit.ensures sound c.in-Ok-Some.ensures.sound c.hand_out.ensures.job c.self.invariant.1 in
    rw (c.hand_out.ensures.desk, c.hand_out.ensures.network) (kept.more, kept.known)

pub returns-in-Err-clause-asks : goal.returns-in-Err-clause-asks
returns-in-Err-clause-asks g c =
    let idle : dispatcher_of c.self.inside.desk c.args.dispatcher ≡ Idle = sym c.dispatcher.ensures ∙ is_idle c.dispatcher.result.now c.id.result c.id.ensures (sym c.is_some.ensures ∙ c.if-is_some.false) in
    rw (← c.self.view_is, c.in-Err.ensures.err) (inr (idle, c.in-Err.ensures.refused, refl))

pub returns-in-Ok-None-clause-asks : goal.returns-in-Ok-None-clause-asks
returns-in-Ok-None-clause-asks g c =
    let idle : dispatcher_of c.self.inside.desk c.args.dispatcher ≡ Idle = sym c.dispatcher.ensures ∙ is_idle c.dispatcher.result.now c.id.result c.id.ensures (sym c.is_some.ensures ∙ c.if-is_some.false) in
    let none : Picks c.self.inside.coord c.pick.new.self None = subst (Picks c.self.inside.coord c.pick.new.self) c.in-Ok-None.field-0-is c.in-Ok-None.ensures.ok in
    rw (← c.self.view_is, none.2) (inr (idle, (none.0, none.1, refl), refl))

pub returns-in-Ok-Some-clause-asks : goal.returns-in-Ok-Some-clause-asks
returns-in-Ok-Some-clause-asks g c =
    let idle : dispatcher_of c.self.inside.desk c.args.dispatcher ≡ Idle = sym c.dispatcher.ensures ∙ is_idle c.dispatcher.result.now c.id.result c.id.ensures (sym c.is_some.ensures ∙ c.if-is_some.false) in
    let picked = picked_by None None _ _ _ _ _ c.in-Ok-Some.field-0-is refl c.in-Ok-Some.ensures.ok in
    rw (← c.self.view_is, c.hand_out.ensures.desk, c.hand_out.ensures.network) (inr (pick_asks _ _ _ _ _ idle picked _ _ c.hand_out.ensures.reply))

pub returns-in-Ok-Some-clause-follows : goal.returns-in-Ok-Some-clause-follows
returns-in-Ok-Some-clause-follows g c =
    let before : NodesValue = nodes_of c.self.inside.coord c.self.inside.desk c.self.inside.network in
    let idle : dispatcher_of c.self.inside.desk c.args.dispatcher ≡ Idle = sym c.dispatcher.ensures ∙ is_idle c.dispatcher.result.now c.id.result c.id.ensures (sym c.is_some.ensures ∙ c.if-is_some.false) in
    let picked = picked_by None None _ _ _ _ _ c.in-Ok-Some.field-0-is refl c.in-Ok-Some.ensures.ok in
    let sound = sound_by _ _ _ _ c.in-Ok-Some.field-0-is c.in-Ok-Some.ensures.job in
    let after : NodesValue = nodes_of c.pick.new.self (with_dispatcher c.self.inside.desk c.args.dispatcher (Busy c.in-Ok-Some.claim)) (record before.network { messages = c.hand_out.new.network.messages }) in
    let low : 1 ≤ c.args.dispatcher = search rules in
    let high : c.args.dispatcher ≤ 4 = search rules in
    rw (← c.self.view_is, c.hand_out.ensures.desk, c.hand_out.ensures.network, c.hand_out.ensures.reply.2)
    (core_follows before after (say.Pick c.args.dispatcher) say.Other (c.in-Ok-Some.ensures.step c.args.dispatcher (low, high))
    (λ h is. pick_keeps before _ _ _ _ idle picked _ _ c.hand_out.ensures.reply h c.know_fit.ensures sound c.in-Ok-Some.ensures.sound c.hand_out.ensures.job is) refl tt)

pub returns-in-Err-clause-follows : goal.returns-in-Err-clause-follows
returns-in-Err-clause-follows g c =
    let before : NodesValue = nodes_of c.self.inside.coord c.self.inside.desk c.self.inside.network in
    let low : 1 ≤ c.args.dispatcher = search rules in
    let high : c.args.dispatcher ≤ 4 = search rules in
    rw (← c.self.view_is) (unchanged_follows before c.pick.new.self (say.Pick c.args.dispatcher) (reply_of (reply.Refused (why.Coord c.in-Err.error))) c.in-Err.ensures.err (c.in-Err.ensures.step c.args.dispatcher (low, high)) tt)

pub returns-in-Ok-None-clause-follows : goal.returns-in-Ok-None-clause-follows
returns-in-Ok-None-clause-follows g c =
    let before : NodesValue = nodes_of c.self.inside.coord c.self.inside.desk c.self.inside.network in
    let none : Picks c.self.inside.coord c.pick.new.self None = subst (Picks c.self.inside.coord c.pick.new.self) c.in-Ok-None.field-0-is c.in-Ok-None.ensures.ok in
    let low : 1 ≤ c.args.dispatcher = search rules in
    let high : c.args.dispatcher ≤ 4 = search rules in
    rw (← c.self.view_is) (unchanged_follows before c.pick.new.self (say.Pick c.args.dispatcher) say.Other none.2 (c.in-Ok-None.ensures.step c.args.dispatcher (low, high)) tt)
