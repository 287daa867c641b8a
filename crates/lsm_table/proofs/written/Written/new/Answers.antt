use Rattle.std.proofs.Common.{◌≡◌, List, [], ap, ◌∙◌}
use Rattle.lsm_key.specs.declared.entry.Entry.{Entry}
use Rattle.lsm_block.specs.Indexed.{block_entries}
use Rattle.lsm_table.specs.Building.{Draft}
use Rattle.lsm_block.proofs.ReadBlocks.{none_read}
use Rattle.lsm_table.proofs.WrittenTables.{written_none}
use Rattle.lsm_table.proofs.written.Written.new.Goals as goal

pub invariant_of-result : goal.invariant_of-result
invariant_of-result c = written_none c.args.target c.new.result.items c.new-2.result.items c.new-3.result c.requires c.new.ensures.items c.new-2.ensures.items (c.new-3.ensures c.args.target)

pub returns : goal.returns
returns c =
    let none : block_entries c.new-2.result.items ≡ [] = ap block_entries c.new-2.ensures.items ∙ none_read in
    let draft : List Entry → Draft = λ es. record { target = c.args.target; entries = es } in
    ap draft none
