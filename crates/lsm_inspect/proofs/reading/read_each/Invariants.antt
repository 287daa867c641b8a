use Rattle.std.proofs.Common.{take}
use Rattle.lsm_inspect.specs.LogReading.{HasReadLog}
use Rattle.lsm_inspect.proofs.reading.read_each.Given as goal

abbrev pub invariant-loop-text : goal.invariant-loop-text
invariant-loop-text l = HasReadLog l.flushed (take l.text-index l.texts) l.reading
