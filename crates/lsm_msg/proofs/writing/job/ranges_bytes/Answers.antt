use Rattle.std.proofs.Common.{arith}
use Rattle.lsm_edit.proofs.JoinedBytes.{one_more_long}
use Rattle.lsm_msg.specs.Messages.{range}
use Rattle.lsm_msg.proofs.writing.job.ranges_bytes.Goals as goal

pub loop-range-preserved : goal.loop-range-preserved
loop-range-preserved c =
    let more = one_more_long range c.args.rs.now c.loop-range.range-index c.range-item.result c.loop-range-test.true c.range-item.is in
    omega (arith, more, c.loop-range.invariant, c.range_bytes.ensures, c.saturating_add-total.ensures)
