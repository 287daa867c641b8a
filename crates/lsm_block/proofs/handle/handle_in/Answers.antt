use Rattle.std.proofs.Common.{arith}
use Rattle.lsm_block.proofs.HandleParts.{handle_found, handle_of_all}
use Rattle.lsm_block.proofs.handle.handle_in.Goals as goal

pub returns-then-begin-end : goal.returns-then-begin-end
returns-then-begin-end c es span = handle_of_all c.args.bytes.now es c.args.key.now span c.requires.some

pub returns : goal.returns
returns c es span =
    let f = c.args.fences.now in
    handle_found f.front c.args.bytes.now f.prefixes.items f.places.items es c.args.key.now c.begin_of-begin.result c.end_of-end.result span (λ i. omega (arith, c.type_inv.bytes i)) (λ i. omega (arith, c.type_inv.key i)) (c.requires.fenced es span) c.begin_of-begin.ensures c.end_of-end.ensures (omega (arith, c.if-begin-end.false))
