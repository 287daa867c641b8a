-- jobs were handed out, and no worker before this number waits
use Rattle.std.proofs.Common.{◌≡◌, ◌≤◌, ℕ, List, Option}
use Rattle.lsm_dispatch.specs.Dispatching.{RunKeeps}
use Rattle.lsm_dispatch.specs.Turns.{NoneWaitsBefore, RunsOver}
use Rattle.lsm_dispatch.proofs.dispatching.hand_out_all.Given as goal

abbrev pub invariant-loop-number : goal.invariant-loop-number
invariant-loop-number g l = record {
  runs : (input : Option (List ℕ)) → RunsOver l.fn.crew l.fn.coord input input (g.W.Sink.contents l.fn.writer) (g.W.Sink.contents l.writer) l.crew l.coord;
  asks : NoneWaitsBefore l.number l.crew l.coord;
  counted : g.W.Sink.writes l.fn.writer ≤ g.W.Sink.writes l.writer;
  sound : g.W.Sink.faults l.writer ≡ g.W.Sink.faults l.fn.writer;
  keeps : RunKeeps l.fn.crew l.fn.coord l.crew l.coord;
}
