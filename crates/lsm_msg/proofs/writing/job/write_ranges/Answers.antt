use Rattle.std.proofs.Common.{◌++◌, length}
use Rattle.std.specs.Int.{w32, to_be_bytes}
use Rattle.lsm_edit.proofs.JoinedBytes.{one_more}
use Rattle.lsm_msg.specs.Messages.{range}
use Rattle.lsm_msg.proofs.writing.job.write_ranges.Goals as goal

pub loop-range-preserved : goal.loop-range-preserved
loop-range-preserved c = one_more range (c.args.out.now.items ++ to_be_bytes w32 (length c.args.rs.now)) c.loop-range.out.items c.write_range.new.out.items c.args.rs.now c.loop-range.range-index c.range-item.result c.loop-range-test.true c.range-item.is c.loop-range.invariant c.in_ok-write_range.ensures
