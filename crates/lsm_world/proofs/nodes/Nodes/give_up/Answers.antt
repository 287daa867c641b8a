use Rattle.std.proofs.Common.{◌≡◌, ◌≤◌, ◌∙◌, refl, rules, sym}
use Rattle.lsm_coord.specs.declared.dispatcher.Dispatcher.TheVariants.{Busy, Idle}
use Rattle.lsm_coord.specs.Contract.Desks.{dispatcher_of, with_dispatcher}
use Rattle.lsm_coord.specs.Model.Event as say
use Rattle.lsm_world.specs.Nodes.{NodesValue, nodes_of}
use Rattle.lsm_world.proofs.DispatcherEvents.{give_up_asks, give_up_keeps, holds_it, settled_told}
use Rattle.lsm_world.proofs.StoreSteps.{core_follows}
use Rattle.lsm_world.proofs.nodes.Nodes.give_up.Goals as goal

pub invariant_of-self : goal.invariant_of-self
invariant_of-self g c =
    let busy : dispatcher_of c.self.inside.desk c.args.dispatcher ≡ Busy c.in-Some.claim = holds_it _ _ (sym c.take.ensures.claim ∙ c.in-Some.is) in
    let within : c.args.dispatcher ≤ 4 = search rules in
    let kept = give_up_keeps _ _ _ _ busy c.give_back.ensures.book c.self.invariant.0 within c.give_back.ensures.sound c.self.invariant.1 in
    rw c.take.ensures.idle (kept.more, kept.known)

pub returns-clause-asks : goal.returns-clause-asks
returns-clause-asks g c =
    let busy : dispatcher_of c.self.inside.desk c.args.dispatcher ≡ Busy c.in-Some.claim = holds_it _ _ (sym c.take.ensures.claim ∙ c.in-Some.is) in
    rw (← c.self.view_is, c.take.ensures.idle) (give_up_asks (nodes_of c.self.inside.coord c.self.inside.desk c.self.inside.network) _ _ c.args.dispatcher busy c.give_back.ensures.book _ _ _ c.id-id.ensures c.give_back.ensures.answer c.returned.ensures)

pub returns-clause-follows : goal.returns-clause-follows
returns-clause-follows g c =
    let before : NodesValue = nodes_of c.self.inside.coord c.self.inside.desk c.self.inside.network in
    let busy : dispatcher_of c.self.inside.desk c.args.dispatcher ≡ Busy c.in-Some.claim = holds_it _ _ (sym c.take.ensures.claim ∙ c.in-Some.is) in
    let within : c.args.dispatcher ≤ 4 = search rules in
    let low : 1 ≤ c.args.dispatcher = search rules in
    rw (← c.self.view_is, c.take.ensures.idle, c.returned.ensures, settled_told c.id-id.result c.give_back.result)
    (core_follows before (nodes_of c.give_back.new.self (with_dispatcher c.self.inside.desk c.args.dispatcher Idle) c.self.inside.network) (say.GiveUp c.args.dispatcher) say.Other
    (c.give_back.ensures.step c.args.dispatcher (low, within)) (λ h is. give_up_keeps before _ _ _ busy c.give_back.ensures.book h within c.give_back.ensures.sound is) refl tt)
