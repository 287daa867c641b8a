use Rattle.std.proofs.Common.{take}
use Rattle.lsm_coord.specs.Inner.Replaying.{HasRead}
use Rattle.lsm_coord.proofs.replay.replay_each.Given as goal

abbrev pub invariant-loop-text : goal.invariant-loop-text
invariant-loop-text l = HasRead l.flushed (take l.text-index l.texts) l.replayed
