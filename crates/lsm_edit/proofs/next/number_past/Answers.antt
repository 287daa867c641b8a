use Rattle.std.proofs.Common.{arith, sym}
use Rattle.lsm_edit.proofs.NextLaws.{after_last, after_none}
use Rattle.lsm_edit.proofs.next.number_past.Goals as goal

pub overflow_add-result : goal.overflow_add-result
overflow_add-result c =
    let next = after_last c.args.least c.args.files.now c.in-Some.file.now (sym c.in-Some.ensures.value) in
    omega (arith, next, c.requires)

pub returns-in-Some : goal.returns-in-Some
returns-in-Some c = sym (after_last c.args.least c.args.files.now c.in-Some.file.now (sym c.in-Some.ensures.value))

pub returns-in-None : goal.returns-in-None
returns-in-None c = sym (after_none c.args.least c.args.files.now (sym c.in-None.ensures.value))
