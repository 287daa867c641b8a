-- the sequences so far
use Rattle.std.proofs.Common.{take}
use Rattle.lsm_msg.specs.Messages.{AreSequences}
use Rattle.lsm_msg.proofs.message.know_sequences.Given as goal

abbrev pub invariant-loop-point : goal.invariant-loop-point
invariant-loop-point l = AreSequences (take l.point-index l.points)
