use Rattle.std.proofs.Common.{arith}
use Rattle.lsm_edit.proofs.JoinedBytes.{one_more_long}
use Rattle.lsm_msg.specs.Messages.{sized}
use Rattle.lsm_msg.proofs.writing.result.tables_bytes.Goals as goal

pub loop-table-preserved : goal.loop-table-preserved
loop-table-preserved c =
    let more = one_more_long sized c.args.ts.now c.loop-table.table-index c.table-item.result c.loop-table-test.true c.table-item.is in
    omega (arith, more, c.loop-table.invariant, c.len.ensures.value, c.saturating_add-total.ensures)
