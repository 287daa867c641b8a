-- the job is sent, and the messages so far are answered
use Rattle.lsm_threads.specs.Serving.{Carries}
use Rattle.lsm_threads.proofs.link.result_for.Given as goal

abbrev pub invariant-loop : goal.invariant-loop
invariant-loop g l = Carries l.fn.worker l.fn.job (g.P.Port.got l.fn.port) (g.P.Port.got l.port) (g.P.Port.sent l.fn.port) (g.P.Port.sent l.port)
