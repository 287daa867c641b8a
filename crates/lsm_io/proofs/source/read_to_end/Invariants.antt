-- the bytes so far are what the source lost, there is room to read, and each turn was a read without a fault
use Rattle.std.proofs.Common.{◌≡◌, ◌<◌, ◌≤◌, ◌+◌, length}
use Rattle.std.specs.Io.KnownBytes.{Consumes}
use Rattle.lsm_io.proofs.source.read_to_end.Given as goal

abbrev pub invariant-loop-turn : goal.invariant-loop-turn
invariant-loop-turn g l = record {
  read : Consumes (g.S.Source.remaining l.fn.source) (g.S.Source.remaining l.source) l.bytes.items;
  room : 0 < length l.chunk.items;
  counted : g.S.Source.reads l.fn.source + l._turn ≤ g.S.Source.reads l.source;
  sound : g.S.Source.faults l.source ≡ g.S.Source.faults l.fn.source;
}
