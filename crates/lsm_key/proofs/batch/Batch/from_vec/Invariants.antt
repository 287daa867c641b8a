-- the operations so far are a batch, and those that are left decide
use Rattle.std.proofs.Common.{◌≡◌, ◌≤◌, take, drop}
use Rattle.lsm_key.specs.declared.limits.TheConstants.{MAX_BATCH_OPS, MAX_BATCH_WEIGHT}
use Rattle.lsm_key.specs.Limits.{total_weight, batch_fault, batch_fault_after}
use Rattle.lsm_key.proofs.batch.Batch.from_vec.Given as goal

abbrev pub invariant-loop-i : goal.invariant-loop-i
invariant-loop-i l = record {
  weighed : l.weight ≡ total_weight (take l.i l.fn.ops.items);
  light : l.weight ≤ MAX_BATCH_WEIGHT;
  few : l.i ≤ MAX_BATCH_OPS;
  left : batch_fault_after (take l.i l.fn.ops.items) (drop l.i l.fn.ops.items) ≡ batch_fault l.fn.ops.items;
}
