use Rattle.std.proofs.lemmas.Result.{err_from_is_err_and}
use Rattle.lsm_dispatch.proofs.TurnSteps.{hand_asked, hand_ends, hand_fails, pick_fails}
use Rattle.lsm_dispatch.proofs.dispatching.hand_out_to.Goals as goal

pub returns-in_err-job-clause-refused : goal.returns-in_err-job-clause-refused
returns-in_err-job-clause-refused g c =
    let p = err_from_is_err_and c.from_residual.result c.from_residual.ensures.1 in
    let why = c.in_err-job.ensures.refused in
    rw (p.1, p.2) (pick_fails c.args.crew.now c.args.coord.now c.in-Some.index (g.W.Sink.contents c.args.writer.now) c.in_err-job.field-0.0 why.0 why.1)

pub returns-clause-ok : goal.returns-clause-ok
returns-clause-ok g c =
    hand_ends c.args.crew.now c.hand_out.new.self c.args.coord.now c.hand_out.new.coord c.in-Some.index c.in_ok-job.job (g.W.Sink.contents c.args.writer.now) (g.W.Sink.contents c.send_some.new.writer) c.in_ok-job.ensures.ok c.send_some.result c.send_some.ensures.ok

pub returns-clause-refused : goal.returns-clause-refused
returns-clause-refused g c =
    hand_fails c.args.crew.now c.hand_out.new.self c.args.coord.now c.hand_out.new.coord c.in-Some.index c.in_ok-job.job (g.W.Sink.contents c.args.writer.now) (g.W.Sink.contents c.send_some.new.writer) c.in_ok-job.ensures.ok c.send_some.result c.send_some.ensures.refused

pub returns-clause-asks : goal.returns-clause-asks
returns-clause-asks g c = hand_asked c.args.crew.now c.hand_out.new.self c.args.coord.now c.hand_out.new.coord c.in-Some.index c.args.number c.in_ok-job.job c.send_some.result c.in-Some.ensures.kept c.in_ok-job.ensures.ok
