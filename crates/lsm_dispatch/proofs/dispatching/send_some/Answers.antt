use Rattle.std.proofs.lemmas.Result.{err_from_is_err_and}
use Rattle.lsm_dispatch.proofs.TurnSteps.{one_refuses}
use Rattle.lsm_dispatch.proofs.dispatching.send_some.Goals as goal

pub returns-in_err-send-clause-refused : goal.returns-in_err-send-clause-refused
returns-in_err-send-clause-refused g c =
    let p = err_from_is_err_and c.from_residual.result c.from_residual.ensures.1 in
    rw (p.1, p.2) (one_refuses g.W.Sink.contents c.args.writer.now c.send.new.writer c.args.message c.in-Some.message c.in_err-send.field-0.0 c.in-Some.is c.in_err-send.ensures.refused c.in_err-send.ensures.unsent)
