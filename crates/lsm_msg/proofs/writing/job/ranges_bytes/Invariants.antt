use Rattle.std.proofs.Common.{◌≡◌, take}
use Rattle.std.specs.List.{flat_map}
use Rattle.lsm_edit.specs.File.{size}
use Rattle.lsm_msg.specs.Messages.{range}
use Rattle.lsm_msg.proofs.writing.job.ranges_bytes.Given as goal

abbrev pub invariant-loop-range : goal.invariant-loop-range
invariant-loop-range l = l.total ≡ size (flat_map range (take l.range-index l.rs))
