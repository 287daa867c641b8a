-- the messages so far are sent
use Rattle.std.proofs.Common.{[], take}
use Rattle.lsm_threads.specs.Ports.{Traffic}
use Rattle.lsm_threads.proofs.port.send_all.Given as goal

abbrev pub invariant-loop-message : goal.invariant-loop-message
invariant-loop-message g l = Traffic (g.P.Port.got l.fn.port) (g.P.Port.got l.port) (g.P.Port.sent l.fn.port) (g.P.Port.sent l.port) [] (take l.message-index l.messages)
