use Rattle.std.proofs.Common.{subst}
use Rattle.lsm_msg.specs.declared.message.Message.{Message}
use Rattle.lsm_threads.specs.Serving.{AnswersOver}
use Rattle.lsm_threads.proofs.ServeSteps.{serves_over}
use Rattle.lsm_threads.proofs.link.next_result.Goals as goal

pub returns-in_ok-answer-in-Err-clause-found : goal.returns-in_ok-answer-in-Err-clause-found
returns-in_ok-answer-in-Err-clause-found g c =
    serves_over c.in_ok-message.message (g.P.Port.got c.args.port.now) (g.P.Port.got c.receive.new.self) (g.P.Port.got c.answer.new.port) (g.P.Port.sent c.args.port.now) (g.P.Port.sent c.receive.new.self) (g.P.Port.sent c.answer.new.port)
    c.in_ok-message.ensures.ok
    (subst (λ (m : Message). AnswersOver m (g.P.Port.got c.receive.new.self) (g.P.Port.got c.answer.new.port) (g.P.Port.sent c.receive.new.self) (g.P.Port.sent c.answer.new.port)) c.in-Err.ensures.err c.in_ok-answer-in-Err.ensures.ok)
