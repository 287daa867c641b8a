-- the messages so far are answered
use Rattle.lsm_threads.specs.Serving.{AnswersAll}
use Rattle.lsm_threads.proofs.serve.serve_loop.Given as goal

abbrev pub invariant-loop : goal.invariant-loop
invariant-loop g l = AnswersAll (g.P.Port.got l.fn.port) (g.P.Port.got l.port) (g.P.Port.sent l.fn.port) (g.P.Port.sent l.port)
