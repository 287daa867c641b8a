-- the bytes so far are what the reader lost, and there is room for more of them
use Rattle.std.proofs.Common.{◌≡◌, ◌<◌, ◌≤◌, ◌-◌, length, min}
use Rattle.std.specs.Io.KnownBytes.{Consumes}
use Rattle.lsm_pipe.specs.declared.frame.TheConstants.{PIECE_BYTES}
use Rattle.lsm_pipe.proofs.frame.read_up_to.Given as goal

abbrev pub invariant-loop-bytes : goal.invariant-loop-bytes
invariant-loop-bytes g l = record {
  read : Consumes (g.R.Source.remaining l.fn.reader) (g.R.Source.remaining l.reader) l.bytes.items;
  few : length l.bytes.items ≤ l.fn.count;
  counted : g.R.Source.reads l.fn.reader ≤ g.R.Source.reads l.reader;
  turns : 0 < length l.bytes.items → g.R.Source.reads l.fn.reader < g.R.Source.reads l.reader;
  sound : g.R.Source.faults l.reader ≡ g.R.Source.faults l.fn.reader;
  room : length l.buffer.items ≡ min l.fn.count PIECE_BYTES;
}

abbrev pub decreases-loop-bytes : goal.decreases-loop-bytes
decreases-loop-bytes g l = l.fn.count - length l.bytes.items
