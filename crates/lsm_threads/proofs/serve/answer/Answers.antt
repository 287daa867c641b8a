use Rattle.std.proofs.Common.{◌≡◌, Option, subst}
use Rattle.lsm_coord.specs.Contract.Memory.{IsFit}
use Rattle.lsm_coord.specs.Contract.Serving.{answer_message}
use Rattle.lsm_coord.specs.Contract.Value.{CoordValue}
use Rattle.lsm_msg.specs.declared.message.Message.{Message}
use Rattle.lsm_threads.proofs.ServeSteps.{answers_none, answers_one}
use Rattle.lsm_threads.proofs.serve.answer.Goals as goal

pub returns-in_ok-send-in-Ok-Some-clause-ok : goal.returns-in_ok-send-in-Ok-Some-clause-ok
returns-in_ok-send-in-Ok-Some-clause-ok g c =
    let asked = c.args.message.now in
    answers_one asked c.in-Ok-Some.answer (g.P.Port.got c.args.port.now) (g.P.Port.got c.send.new.self) (g.P.Port.sent c.args.port.now) (g.P.Port.sent c.send.new.self)
    (subst (λ (said : Option Message). (at : CoordValue) × IsFit at × (said ≡ answer_message at asked asked.body)) c.in-Ok-Some.field-0-is c.in-Ok-Some.ensures.answer)
    c.in_ok-send-in-Ok-Some.ensures.ok

pub returns-in-Ok-None-clause-ok : goal.returns-in-Ok-None-clause-ok
returns-in-Ok-None-clause-ok g c =
    let asked = c.args.message.now in
    answers_none asked (g.P.Port.got c.args.port.now) (g.P.Port.sent c.args.port.now)
    (subst (λ (said : Option Message). (at : CoordValue) × IsFit at × (said ≡ answer_message at asked asked.body)) c.in-Ok-None.field-0-is c.in-Ok-None.ensures.answer)
