use Rattle.std.proofs.Common.{List, ap, length, arith}
use Rattle.lsm_edit.specs.declared.file.FileMeta.{FileMeta}
use Rattle.lsm_work.specs.Workers.{TaskValue, missing}
use Rattle.lsm_work.proofs.HeldInputs.{missing_count}
use Rattle.lsm_work.proofs.task.Task.missing.Goals as goal

pub overflow_sub-result : goal.overflow_sub-result
overflow_sub-result c =
    let many = missing_count c.self.inside.job c.self.inside.numbers.items c.self.inside.tables.items c.self.invariant.0 in
    let inputs = ap (λ (fs : List FileMeta). length fs) c.inputs.ensures.all in
    omega (arith, many, inputs, c.len.ensures)

pub returns : goal.returns
returns c =
    let many = missing_count c.self.inside.job c.self.inside.numbers.items c.self.inside.tables.items c.self.invariant.0 in
    let inputs = ap (λ (fs : List FileMeta). length fs) c.inputs.ensures.all in
    let shown = ap (λ (t : TaskValue). length (missing t)) c.self.view_is in
    omega (arith, many, inputs, shown, c.len.ensures)
