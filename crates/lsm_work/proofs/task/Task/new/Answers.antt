use Rattle.std.proofs.Common.{List, ap, length, arith}
use Rattle.lsm_edit.specs.declared.file.FileMeta.{FileMeta}
use Rattle.lsm_work.proofs.HeldInputs.{held_none, task_none}
use Rattle.lsm_work.proofs.task.Task.new.Goals as goal

pub invariant_of-result : goal.invariant_of-result
invariant_of-result c =
    let all = ap (λ (fs : List FileMeta). length fs) c.inputs-count.ensures.all in
    rw (c.in_ok-job.ensures, c.in_ok-numbers.ensures.items, c.in_ok-tables.ensures.items) (held_none c.args.job.now c.inputs-count.ensures.sound, omega (arith, all, c.in_ok-numbers.ensures.capacity), omega (arith, all, c.in_ok-tables.ensures.capacity))

pub returns : goal.returns
returns c = rw (c.in_ok-job.ensures, c.in_ok-numbers.ensures.items, c.in_ok-tables.ensures.items) (task_none c.args.job.now)
