-- jobs were handed out and letters taken so far, and each turn was a read without a fault
use Rattle.std.proofs.Common.{◌≡◌, ◌+◌, ◌≤◌}
use Rattle.lsm_dispatch.specs.Dispatching.{RunKeeps}
use Rattle.lsm_dispatch.specs.Turns.{RunsOver}
use Rattle.lsm_dispatch.proofs.dispatching.run.Given as goal

abbrev pub invariant-loop-turn : goal.invariant-loop-turn
invariant-loop-turn g l = record {
  runs : RunsOver l.fn.crew l.fn.coord (g.R.Source.remaining l.fn.reader) (g.R.Source.remaining l.reader) (g.W.Sink.contents l.fn.writer) (g.W.Sink.contents l.writer) l.crew l.coord;
  reads : g.R.Source.reads l.fn.reader + l._turn ≤ g.R.Source.reads l.reader;
  writes : g.W.Sink.writes l.fn.writer ≤ g.W.Sink.writes l.writer;
  read_faults : g.R.Source.faults l.reader ≡ g.R.Source.faults l.fn.reader;
  write_faults : g.W.Sink.faults l.writer ≡ g.W.Sink.faults l.fn.writer;
  keeps : RunKeeps l.fn.crew l.fn.coord l.crew l.coord;
}
