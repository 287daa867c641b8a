use Rattle.lsm_key.proofs.Results.{on_err}
use Rattle.lsm_threads.proofs.ServeSteps.{stops_at}
use Rattle.lsm_threads.proofs.serve.serve_next.Goals as goal

pub returns-in_err-answer-clause-err : goal.returns-in_err-answer-clause-err
returns-in_err-answer-clause-err g c =
    on_err c.from_residual-in_err-answer.result _ (stops_at c.in_ok-message.message (g.P.Port.got c.args.port.now) (g.P.Port.got c.receive.new.self) (g.P.Port.got c.answer.new.port) (g.P.Port.sent c.args.port.now) (g.P.Port.sent c.receive.new.self) (g.P.Port.sent c.answer.new.port)
    c.in_ok-message.ensures.ok c.in_err-answer.ensures.err)
