use Rattle.std.proofs.Common.{take}
use Rattle.lsm_coord.proofs.OpenedOutputs.{AreOpened}
use Rattle.lsm_coord.proofs.coord.outputs.open_outputs.Given as goal

abbrev pub invariant-loop-text : goal.invariant-loop-text
invariant-loop-text l = AreOpened l.block l.hull (take l.text-index l.texts) l.tables.items
