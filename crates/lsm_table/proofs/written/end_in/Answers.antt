use Rattle.std.proofs.Common.{◌+◌, ◌≤◌, length, arith, rules}
use Rattle.lsm_table.proofs.WrittenTables.{end_is, end_within}
use Rattle.lsm_table.proofs.written.end_in.Goals as goal

pub overflow_add-result-2 : goal.overflow_add-result-2
overflow_add-result-2 c =
    let within : c.args.last + (10 + c.args.key) ≤ length c.args.blocks.now = end_within c.requires.0 c.args.blocks.now c.args.last c.args.key c.requires.1 in
    omega (arith, within)

pub slice_bounds-result-end : goal.slice_bounds-result-end
slice_bounds-result-end c =
    let within : c.args.last + (10 + c.args.key) ≤ length c.args.blocks.now = end_within c.requires.0 c.args.blocks.now c.args.last c.args.key c.requires.1 in
    search (rules, within)

pub returns : goal.returns
returns c = λ es is. end_is es c.args.blocks.now c.args.last c.args.key is
