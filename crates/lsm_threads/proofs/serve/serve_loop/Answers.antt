use Rattle.lsm_threads.proofs.ServeSteps.{serves_more, serves_until}
use Rattle.lsm_threads.proofs.serve.serve_loop.Goals as goal

pub returns-in-Err-clause-serves : goal.returns-in-Err-clause-serves
returns-in-Err-clause-serves g c =
    serves_until (g.P.Port.got c.args.port.now) (g.P.Port.got c.loop.port) (g.P.Port.got c.serve_next.new.port) (g.P.Port.sent c.args.port.now) (g.P.Port.sent c.loop.port) (g.P.Port.sent c.serve_next.new.port)
    c.loop.invariant c.in-Err.ensures.err

pub loop-preserved : goal.loop-preserved
loop-preserved g c =
    serves_more (g.P.Port.got c.args.port.now) (g.P.Port.got c.loop.port) (g.P.Port.got c.serve_next.new.port) (g.P.Port.sent c.args.port.now) (g.P.Port.sent c.loop.port) (g.P.Port.sent c.serve_next.new.port)
    c.loop.invariant c.in_default.ensures.ok
