use Rattle.std.proofs.Common.{◌++◌, length}
use Rattle.std.specs.Int.{w32, to_be_bytes}
use Rattle.lsm_edit.proofs.JoinedBytes.{one_more}
use Rattle.lsm_msg.specs.Messages.{sized}
use Rattle.lsm_msg.proofs.writing.result.write_tables.Goals as goal

pub loop-table-preserved : goal.loop-table-preserved
loop-table-preserved c = one_more sized (c.args.out.now.items ++ to_be_bytes w32 (length c.args.ts.now)) c.loop-table.out.items c.write_sized.new.out.items c.args.ts.now c.loop-table.table-index c.table-item.result c.loop-table-test.true c.table-item.is c.loop-table.invariant c.in_ok-write_sized.ensures
