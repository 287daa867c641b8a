-- Each event goes to the node that answers it, and the others are as before.
use Rattle.std.proofs.Common.{inr, refl}
use Rattle.lsm_world.specs.Events.{event_of}
use Rattle.lsm_world.specs.Nodes.{nodes_of, up_store}
use Rattle.lsm_world.specs.Replies.{reply_of}
use Rattle.lsm_world.proofs.NetworkSteps.{network_event_follows, network_plain}
use Rattle.lsm_world.proofs.OtherNodes.{network_keeps, other_asked, own_asked}
use Rattle.lsm_world.proofs.QuietReplies.{own_quiet}
use Rattle.lsm_world.proofs.SameFiles.{call_keeps}
use Rattle.lsm_world.proofs.StoreSteps.{core_follows}
use Rattle.lsm_world.proofs.nodes.Nodes.answer.Goals as goal

pub returns-in-Pick-clause-follows : goal.returns-in-Pick-clause-follows
returns-in-Pick-clause-follows g c = rw c.in-Pick.is c.pick.ensures.follows

pub returns-in-GiveUp-clause-asks : goal.returns-in-GiveUp-clause-asks
returns-in-GiveUp-clause-asks g c = rw c.in-GiveUp.is (inr c.give_up.ensures.asks)

pub returns-in-GiveUp-clause-follows : goal.returns-in-GiveUp-clause-follows
returns-in-GiveUp-clause-follows g c = rw c.in-GiveUp.is c.give_up.ensures.follows

pub returns-in-Deliver-clause-follows : goal.returns-in-Deliver-clause-follows
returns-in-Deliver-clause-follows g c = rw c.in-Deliver.is c.deliver.ensures.follows

-- ---- a worker or a follower

pub invariant_of-self-in-RestartWorker : goal.invariant_of-self-in-RestartWorker
invariant_of-self-in-RestartWorker g c =
    network_keeps (nodes_of c.self-in-RestartWorker.inside.coord c.self-in-RestartWorker.inside.desk c.self-in-RestartWorker.inside.network) c.answer-in-RestartWorker.new.self c.answer-in-RestartWorker.ensures.keeps c.self-in-RestartWorker.invariant

pub returns-in-RestartWorker-clause-asks : goal.returns-in-RestartWorker-clause-asks
returns-in-RestartWorker-clause-asks g c =
    let asked = c.answer-in-RestartWorker in
    rw (← c.self-in-RestartWorker.view_is)
    (other_asked (nodes_of c.self-in-RestartWorker.inside.coord c.self-in-RestartWorker.inside.desk c.self-in-RestartWorker.inside.network) asked.new.self asked.result c.args.event.now asked.ensures.own asked.ensures.asks)

pub returns-in-RestartWorker-clause-follows : goal.returns-in-RestartWorker-clause-follows
returns-in-RestartWorker-clause-follows g c =
    let asked = c.answer-in-RestartWorker in
    rw (← c.self-in-RestartWorker.view_is)
    (network_event_follows (up_store (nodes_of c.self-in-RestartWorker.inside.coord c.self-in-RestartWorker.inside.desk c.self-in-RestartWorker.inside.network)) asked.new.self c.args.event.now asked.result asked.ensures.own asked.ensures.sound asked.ensures.keeps asked.ensures.asks)

pub returns-in-RestartWorker-clause-plain : goal.returns-in-RestartWorker-clause-plain
returns-in-RestartWorker-clause-plain g c = network_plain c.self-in-RestartWorker.inside.network c.answer-in-RestartWorker.new.self c.args.event.now c.answer-in-RestartWorker.result c.answer-in-RestartWorker.ensures.asks

-- ---- the coordinator

pub invariant_of-self : goal.invariant_of-self
invariant_of-self g c = let kept = call_keeps c.self.invariant.0 (nodes_of c.self.inside.coord c.self.inside.desk c.self.inside.network) c.answer.new.coord c.answer.ensures.files c.self.invariant.1 in (kept.more, kept.known)

pub returns-in_default-clause-asks : goal.returns-in_default-clause-asks
returns-in_default-clause-asks g c = rw (← c.self.view_is) (own_asked (nodes_of c.self.inside.coord c.self.inside.desk c.self.inside.network) c.answer.new.coord c.answer.result c.args.event.now c.answer.ensures.own c.answer.ensures.calls)

pub returns-in_default-clause-follows : goal.returns-in_default-clause-follows
returns-in_default-clause-follows g c =
    let before = nodes_of c.self.inside.coord c.self.inside.desk c.self.inside.network in
    rw (← c.self.view_is) (core_follows before (record before { core = c.answer.new.coord }) (event_of c.args.event.now) (reply_of c.answer.result) c.answer.ensures.follows
    (λ h is. call_keeps h before c.answer.new.coord c.answer.ensures.files is) refl (own_quiet c.args.event.now (reply_of c.answer.result) c.answer.ensures.own))
