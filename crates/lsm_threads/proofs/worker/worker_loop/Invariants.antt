-- the messages so far are taken, and what came of them is sent
use Rattle.lsm_threads.specs.Working.{WorksOverPort}
use Rattle.lsm_threads.proofs.worker.worker_loop.Given as goal

abbrev pub invariant-loop : goal.invariant-loop
invariant-loop g l = WorksOverPort l.fn.worker l.worker (g.P.Port.got l.fn.port) (g.P.Port.got l.port) (g.P.Port.sent l.fn.port) (g.P.Port.sent l.port)
