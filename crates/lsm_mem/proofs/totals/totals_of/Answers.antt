use Rattle.std.proofs.Common.{arith}
use Rattle.lsm_mem.proofs.MemtableTotals.{length-le-weight}
use Rattle.lsm_mem.proofs.totals.totals_of.Goals as goal

pub overflow_add-count : goal.overflow_add-count
overflow_add-count c =
    let counted = c.loop-entry.invariant.counted in
    let few = length-le-weight c.args.cursor in
    let light = c.requires in
    omega (arith, counted, few, light)
