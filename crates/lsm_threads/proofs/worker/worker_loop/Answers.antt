use Rattle.lsm_threads.proofs.WorkSteps.{works_more, works_until}
use Rattle.lsm_threads.proofs.worker.worker_loop.Goals as goal

pub returns-in-Err-clause-works : goal.returns-in-Err-clause-works
returns-in-Err-clause-works g c =
    works_until c.args.worker c.loop.worker c.turn.new.worker (g.P.Port.got c.args.port.now) (g.P.Port.got c.loop.port) (g.P.Port.got c.turn.new.port) (g.P.Port.sent c.args.port.now) (g.P.Port.sent c.loop.port) (g.P.Port.sent c.turn.new.port)
    c.in-Err.ending c.loop.invariant c.in-Err.ensures.err

pub loop-preserved : goal.loop-preserved
loop-preserved g c =
    works_more c.args.worker c.loop.worker c.turn.new.worker (g.P.Port.got c.args.port.now) (g.P.Port.got c.loop.port) (g.P.Port.got c.turn.new.port) (g.P.Port.sent c.args.port.now) (g.P.Port.sent c.loop.port) (g.P.Port.sent c.turn.new.port)
    c.loop.invariant c.in_default.ensures.ok
