-- the messages so far are written
use Rattle.std.proofs.Common.{◌≡◌, ◌≤◌, take}
use Rattle.std.specs.Io.KnownBytes.{Appends}
use Rattle.lsm_pipe.specs.Frames.{framed}
use Rattle.lsm_pipe.proofs.mail.send_all.Given as goal

abbrev pub invariant-loop-message : goal.invariant-loop-message
invariant-loop-message g l = record {
  written : Appends (g.W.Sink.contents l.fn.writer) (g.W.Sink.contents l.writer) (framed (take l.message-index l.messages));
  counted : g.W.Sink.writes l.fn.writer ≤ g.W.Sink.writes l.writer;
  sound : g.W.Sink.faults l.writer ≡ g.W.Sink.faults l.fn.writer;
}
