use Rattle.std.proofs.Common.{arith}
use Rattle.lsm_key.proofs.Results.{on_err}
use Rattle.lsm_threads.proofs.Passing.{sends_part}
use Rattle.lsm_threads.proofs.port.send_all.Goals as goal

pub returns-in_err-send-clause-err : goal.returns-in_err-send-clause-err
returns-in_err-send-clause-err g c =
    on_err c.from_residual.result _ (sends_part c.loop-message.message-index c.args.messages.now (g.P.Port.got c.args.port.now) (g.P.Port.got c.loop-message.port) (g.P.Port.got c.send.new.self) (g.P.Port.sent c.args.port.now) (g.P.Port.sent c.loop-message.port) (g.P.Port.sent c.send.new.self)
    (omega (arith, c.loop-message-test.true)) c.loop-message.invariant c.in_err-send.ensures.err)
