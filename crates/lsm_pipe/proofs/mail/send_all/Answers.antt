use Rattle.std.proofs.Common.{arith}
use Rattle.std.proofs.lemmas.Result.{err_from_is_err_and}
use Rattle.lsm_pipe.proofs.WorkSteps.{send_stops}
use Rattle.lsm_pipe.proofs.mail.send_all.Goals as goal

pub returns-in_err-send-clause-refused : goal.returns-in_err-send-clause-refused
returns-in_err-send-clause-refused g c =
    let p = err_from_is_err_and c.from_residual.result c.from_residual.ensures.1 in
    rw (p.1, p.2) (send_stops c.args.messages.now c.loop-message.message-index c.message-item.result c.in_err-send.field-0.0 c.message-item.is (omega (arith, c.loop-message-test.true)) c.in_err-send.ensures.refused)
