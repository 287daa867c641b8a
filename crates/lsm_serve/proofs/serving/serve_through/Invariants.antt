-- nothing is kept back, what is answered is served, whatever comes is run, and each turn was a read without a fault
use Rattle.std.proofs.Common.{◌≡◌, ◌<◌, ◌≤◌, ◌+◌, ◌++◌, [], ℕ, List, Some, length}
use Rattle.lsm_serve.specs.Serving.{AreAhead}
use Rattle.lsm_serve.specs.ServingSteps.{RanSoFar, ServedSoFar}
use Rattle.lsm_serve.proofs.serving.serve_through.Given as goal

abbrev pub invariant-loop-turn : goal.invariant-loop-turn
invariant-loop-turn g l = record {
  room : 0 < length l.chunk;
  empty : l.out.items ≡ [];
  so : (requests : List (List (List ℕ))) → AreAhead (g.R.Source.remaining l.fn.reader) requests
      → (later : List ℕ) × (g.R.Source.remaining l.reader ≡ Some later) × ServedSoFar l.fn.store requests (g.W.Sink.contents l.fn.writer) l.store (l.input.items ++ later) [] (g.W.Sink.contents l.writer);
  ran : RanSoFar l.fn.store (g.W.Sink.contents l.fn.writer) l.store l.out.items (g.W.Sink.contents l.writer);
  reads : g.R.Source.reads l.fn.reader + l._turn ≤ g.R.Source.reads l.reader;
  writes : g.W.Sink.writes l.fn.writer ≤ g.W.Sink.writes l.writer;
  read_faults : g.R.Source.faults l.reader ≡ g.R.Source.faults l.fn.reader;
  write_faults : g.W.Sink.faults l.writer ≡ g.W.Sink.faults l.fn.writer;
}
