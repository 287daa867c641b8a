use Rattle.std.proofs.Common.{◌≡◌, ◌++◌, take, length}
use Rattle.std.specs.Int.{w32, to_be_bytes}
use Rattle.std.specs.List.{flat_map}
use Rattle.lsm_msg.specs.Messages.{range}
use Rattle.lsm_msg.proofs.writing.job.write_ranges.Given as goal

abbrev pub invariant-loop-range : goal.invariant-loop-range
invariant-loop-range l = l.out.items ≡ (l.fn.out.items ++ to_be_bytes w32 (length l.rs)) ++ flat_map range (take l.range-index l.rs)
