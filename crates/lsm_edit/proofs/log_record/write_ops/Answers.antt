use Rattle.lsm_edit.specs.LogRecord.{op_bytes}
use Rattle.lsm_edit.proofs.JoinedBytes.{one_more}
use Rattle.lsm_edit.proofs.log_record.write_ops.Goals as goal

pub loop-op-preserved : goal.loop-op-preserved
loop-op-preserved c = one_more op_bytes c.args.out.now.items c.loop-op.out.items c.write_op.new.out.items c.args.ops.now c.loop-op.op-index c.op-item.result c.loop-op-test.true c.op-item.is c.loop-op.invariant c.in_ok-write_op.ensures
