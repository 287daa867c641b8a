use Rattle.std.proofs.Common.{sym, ◌∙◌, true, false, arith}
use Rattle.lsm_key.specs.Visible.{lent_entry}
use Rattle.lsm_block.proofs.IndexedSoFar.{next_faulty, next_read}
use Rattle.lsm_block.proofs.indexing.next_in.Goals as goal

pub returns-in-Err : goal.returns-in-Err
returns-in-Err c es is = next_faulty c.args.max_key es c.args.rest.now c.in-Err.fault c.in-Err.ensures

pub returns-then-not-comes_after : goal.returns-then-not-comes_after
returns-then-not-comes_after c es is =
    next_read c.args.max_key c.requires es c.args.key.now c.args.seq c.args.rest.now (lent_entry c.in-Ok.found.0) c.in-Ok.found.1.now false (λ i. omega (arith, c.type_inv.rest i)) is c.in-Ok.ensures (sym c.comes_after.ensures ∙ c.if-not-comes_after.true)

pub returns : goal.returns
returns c es is =
    next_read c.args.max_key c.requires es c.args.key.now c.args.seq c.args.rest.now (lent_entry c.in-Ok.found.0) c.in-Ok.found.1.now true (λ i. omega (arith, c.type_inv.rest i)) is c.in-Ok.ensures (sym c.comes_after.ensures ∙ c.if-not-comes_after.false)
