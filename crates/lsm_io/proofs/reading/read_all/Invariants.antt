-- the bytes so far are what the reader lost, and there is room to read
use Rattle.std.proofs.Common.{◌<◌, length}
use Rattle.std.specs.Io.KnownBytes.{Consumes}
use Rattle.lsm_io.proofs.reading.read_all.Given as goal

abbrev pub invariant-loop : goal.invariant-loop
invariant-loop g l = record {
  read : Consumes (g.R.Read.remaining l.fn.reader) (g.R.Read.remaining l.reader) l.bytes.items;
  room : 0 < length l.chunk.items;
}
