use Rattle.std.proofs.Common.{◌≡◌, ◌++◌, take, length}
use Rattle.std.specs.Int.{w8, w64, to_be_bytes}
use Rattle.std.specs.List.{flat_map}
use Rattle.lsm_msg.proofs.writing.job.write_points.Given as goal

abbrev pub invariant-loop-point : goal.invariant-loop-point
invariant-loop-point l = l.out.items ≡ (l.fn.out.items ++ to_be_bytes w8 (length l.ps)) ++ flat_map (to_be_bytes w64) (take l.point-index l.ps)
