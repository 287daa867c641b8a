use Rattle.std.specs.Int.{w32}
use Rattle.lsm_key.specs.declared.limits.TheConstants.{MAX_BATCH_OPS}
use Rattle.lsm_key.proofs.FieldLaws.{within_range}
use Rattle.lsm_edit.proofs.LogRecordLaws.{never_refused}
use Rattle.lsm_edit.proofs.log_record.read_write.Goals as goal

pub returns-in-Err : goal.returns-in-Err
returns-in-Err g c =
    absurd (never_refused c.args.short c.args.bad c.in_ok-count.count c.read_ranged_u32.new.rest c.in_ok-ops.ops.items c.read_ops.new.rest c.in-Err.field-0
    (within_range c.args.short c.args.bad w32 1 MAX_BATCH_OPS c.read_ranged_u64.new.rest (c.in_ok-count.count, c.read_ranged_u32.new.rest) c.in_ok-count.ensures)
    c.know_bytes.ensures c.in_ok-ops.ensures c.in-Err.ensures.refused)
