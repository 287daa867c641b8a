-- the messages so far are taken, what came of them is sent, and each turn was a read without a fault
use Rattle.std.proofs.Common.{◌≡◌, ◌+◌, ◌≤◌, None}
use Rattle.lsm_pipe.specs.Working.{WorksOver}
use Rattle.lsm_pipe.proofs.working.work.Given as goal

abbrev pub invariant-loop-turn : goal.invariant-loop-turn
invariant-loop-turn g l = record {
  over : WorksOver l.fn.index (record { index = l.fn.index; task = None }) (g.R.Source.remaining l.fn.reader) (g.R.Source.remaining l.reader) (g.W.Sink.contents l.fn.writer) (g.W.Sink.contents l.writer) l.worker;
  reads : g.R.Source.reads l.fn.reader + l._turn ≤ g.R.Source.reads l.reader;
  writes : g.W.Sink.writes l.fn.writer ≤ g.W.Sink.writes l.writer;
  read_faults : g.R.Source.faults l.reader ≡ g.R.Source.faults l.fn.reader;
  write_faults : g.W.Sink.faults l.writer ≡ g.W.Sink.faults l.fn.writer;
}
