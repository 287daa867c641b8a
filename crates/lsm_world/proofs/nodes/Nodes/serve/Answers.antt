-- The answer to a question that was sent is sound and known, and the coordinator is as before.
use Rattle.std.proofs.Common.{◌≡◌, Some, inr, refl, sym, subst, ◌∙◌}
use Rattle.lsm_coord.specs.Contract.Serving.{answer_message}
use Rattle.lsm_coord.specs.Model.Event as say
use Rattle.lsm_world.specs.Asks.Deliveries.{Receives}
use Rattle.lsm_world.specs.Inner.Handing.{IsStored}
use Rattle.lsm_world.specs.Nodes.{NodesValue, nodes_of}
use Rattle.lsm_world.specs.Replies.{reply_of}
use Rattle.lsm_world.specs.declared.reply.Reply.TheVariants as reply
use Rattle.lsm_world.proofs.GrowingHistory.{keeps_same}
use Rattle.lsm_world.proofs.SentAnswers.{answer_is_sound, answer_keeps, question_answered, question_asks}
use Rattle.lsm_world.proofs.StoreSteps.{core_follows}
use Rattle.lsm_world.proofs.nodes.Nodes.serve.Goals as goal

pub unreachable-requires : goal.unreachable-requires
unreachable-requires g c = question_answered c.self.inside.coord c.args.message.now c.args.message.now.body c.know_fit.ensures c.requires.question (sym c.in-Ok-None.ensures.ok ∙ c.in-Ok-None.field-0-is)

pub send-requires : goal.send-requires
send-requires g c =
    let answered : answer_message c.self.inside.coord c.args.message.now c.args.message.now.body ≡ Some c.in-Ok-Some.answer = sym c.in-Ok-Some.ensures.ok ∙ c.in-Ok-Some.field-0-is in
    let stored = subst (λ (n : NodesValue). IsStored n.network.messages c.args.message.now) (sym c.self.view_is) c.requires.stored in
    answer_is_sound (nodes_of c.self.inside.coord c.self.inside.desk c.self.inside.network) c.args.message.now c.in-Ok-Some.answer c.know_fit.ensures stored answered c.self.invariant.0 c.self.invariant.1

pub invariant_of-self : goal.invariant_of-self
invariant_of-self g c =
    let answered : answer_message c.self.inside.coord c.args.message.now c.args.message.now.body ≡ Some c.in-Ok-Some.answer = sym c.in-Ok-Some.ensures.ok ∙ c.in-Ok-Some.field-0-is in
    let stored = subst (λ (n : NodesValue). IsStored n.network.messages c.args.message.now) (sym c.self.view_is) c.requires.stored in
    rw c.send.ensures.rest
    (c.self.invariant.0, answer_keeps (nodes_of c.self.inside.coord c.self.inside.desk c.self.inside.network) c.args.message.now c.in-Ok-Some.answer c.know_fit.ensures stored answered c.send.result c.send.new.network.messages c.send.ensures.sends c.self.invariant.0 c.self.invariant.1)

pub returns-in-Ok-Some-clause-asks : goal.returns-in-Ok-Some-clause-asks
returns-in-Ok-Some-clause-asks g c =
    let answered : answer_message c.self.inside.coord c.args.message.now c.args.message.now.body ≡ Some c.in-Ok-Some.answer = sym c.in-Ok-Some.ensures.ok ∙ c.in-Ok-Some.field-0-is in
    let before : NodesValue = nodes_of c.self.inside.coord c.self.inside.desk c.self.inside.network in
    let after : NodesValue = record before { network = record before.network { messages = c.send.new.network.messages } } in
    rw c.send.ensures.rest
    (inr (subst (λ (n : NodesValue). Receives n c.args.message.now c.args.message.now.src c.args.message.now.body (reply.Served c.send.result) after) c.self.view_is
    (question_asks before c.args.message.now c.args.message.now.src c.args.message.now.body (reply.Served c.send.result) after c.requires.question
    (c.in-Ok-Some.answer, answered, c.send.result, refl, c.send.ensures.sends, refl))))

pub returns-in-Ok-Some-clause-follows : goal.returns-in-Ok-Some-clause-follows
returns-in-Ok-Some-clause-follows g c =
    let answered : answer_message c.self.inside.coord c.args.message.now c.args.message.now.body ≡ Some c.in-Ok-Some.answer = sym c.in-Ok-Some.ensures.ok ∙ c.in-Ok-Some.field-0-is in
    let stored = subst (λ (n : NodesValue). IsStored n.network.messages c.args.message.now) (sym c.self.view_is) c.requires.stored in
    let before : NodesValue = nodes_of c.self.inside.coord c.self.inside.desk c.self.inside.network in
    let after : NodesValue = record before { network = record before.network { messages = c.send.new.network.messages } } in
    rw (← c.self.view_is, c.send.ensures.rest)
    (λ number. core_follows before after (say.Deliver number) (reply_of (reply.Served c.send.result)) (c.serve.ensures.step number)
    (λ h is. keeps_same h after (answer_keeps before c.args.message.now c.in-Ok-Some.answer c.know_fit.ensures stored answered c.send.result c.send.new.network.messages c.send.ensures.sends h is)) refl tt)
