use Rattle.std.proofs.Common.{take}
use Rattle.lsm_store.specs.Stats.{WroteBytes}
use Rattle.lsm_store.proofs.written.Written.by_edits.Given as goal

abbrev pub invariant-loop-text : goal.invariant-loop-text
invariant-loop-text l = WroteBytes (take l.text-index l.edits) l.written
