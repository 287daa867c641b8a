-- a beginning is written, and the rest is left
use Rattle.lsm_io.proofs.KnownStreams.{IsWritten}
use Rattle.lsm_io.proofs.writing.write_all.Given as goal

abbrev pub invariant-loop : goal.invariant-loop
invariant-loop g l = IsWritten (g.W.Write.contents l.fn.writer) (g.W.Write.contents l.writer) l.bytes l.rest
