use Rattle.lsm_threads.proofs.Passing.{handed_on}
use Rattle.lsm_threads.proofs.WorkSteps.{stops_over}
use Rattle.lsm_threads.proofs.worker.turn.Goals as goal

pub returns-in_err-take-clause-err : goal.returns-in_err-take-clause-err
returns-in_err-take-clause-err g c =
    handed_on c.from_residual-in_err-take.result c.in_err-take.field-0.0 _ c.from_residual-in_err-take.ensures.1
    (stops_over c.args.worker.now c.take.new.worker c.in_ok-message.message (g.P.Port.got c.args.port.now) (g.P.Port.got c.receive.new.self) (g.P.Port.got c.take.new.port) (g.P.Port.sent c.args.port.now) (g.P.Port.sent c.receive.new.self) (g.P.Port.sent c.take.new.port)
    c.in_err-take.field-0.0 c.in_ok-message.ensures.ok c.in_err-take.ensures.err)
