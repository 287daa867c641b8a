-- nothing is read yet, and there is room to read
use Rattle.std.proofs.Common.{◌≡◌, [], length}
use Rattle.std.specs.Io.KnownBytes.{Consumes}
use Rattle.lsm_io.proofs.reading.read_more.Given as goal

abbrev pub invariant-loop : goal.invariant-loop
invariant-loop g l = record {
  read : Consumes (g.R.Read.remaining l.fn.reader) (g.R.Read.remaining l.reader) [];
  same : l.input.items ≡ l.fn.input.items;
  room : length l.chunk ≡ length l.fn.chunk;
}
