-- a beginning is written, and the rest is left
use Rattle.std.proofs.Common.{◌≡◌, ◌≤◌, length}
use Rattle.lsm_io.proofs.KnownStreams.{IsWritten}
use Rattle.lsm_io.proofs.sink.write_whole.Given as goal

abbrev pub invariant-loop-rest : goal.invariant-loop-rest
invariant-loop-rest g l = record {
  written : IsWritten (g.S.Sink.contents l.fn.sink) (g.S.Sink.contents l.sink) l.bytes l.rest;
  counted : g.S.Sink.writes l.fn.sink ≤ g.S.Sink.writes l.sink;
  sound : g.S.Sink.faults l.sink ≡ g.S.Sink.faults l.fn.sink;
}

abbrev pub decreases-loop-rest : goal.decreases-loop-rest
decreases-loop-rest g l = length l.rest
