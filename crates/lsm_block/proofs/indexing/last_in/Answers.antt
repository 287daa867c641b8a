use Rattle.std.proofs.Common.{arith}
use Rattle.lsm_key.specs.Visible.{lent_entry}
use Rattle.lsm_block.proofs.ReadBlocks.{last_lent, last_faultless}
use Rattle.lsm_block.proofs.indexing.last_in.Goals as goal

pub returns-in-Ok : goal.returns-in-Ok
returns-in-Ok c es span is = last_lent c.args.bytes.now es c.args.found.now span is (λ z. omega (arith, z, c.if-found-eq0.false)) (lent_entry c.in-Ok.entry) c.in-Ok.field-0-1.now c.in-Ok.ensures

pub returns-in-Err : goal.returns-in-Err
returns-in-Err c es span is = absurd (last_faultless c.args.bytes.now es c.args.found.now span is (λ z. omega (arith, z, c.if-found-eq0.false)) c.in-Err.field-0 c.in-Err.ensures)
