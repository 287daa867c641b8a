-- the messages so far are encoded
use Rattle.std.proofs.Common.{take}
use Rattle.lsm_world.specs.Asks.Messages.{AreSpelled}
use Rattle.lsm_world.proofs.messages.encode_all.Given as goal

abbrev pub invariant-loop-message : goal.invariant-loop-message
invariant-loop-message l = AreSpelled l.texts.items (take l.message-index l.messages)
