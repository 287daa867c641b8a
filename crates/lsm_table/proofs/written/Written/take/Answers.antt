use Rattle.std.proofs.Common.{◌≡◌, ◌++◌, ℕ, List, [], ap, ◌∙◌}
use Rattle.lsm_key.specs.declared.entry.Entry.{Entry}
use Rattle.lsm_block.specs.Blocks.{entries}
use Rattle.lsm_block.specs.Indexed.{block_entries}
use Rattle.lsm_table.specs.Building.{Draft}
use Rattle.lsm_block.proofs.ReadBlocks.{none_read}
use Rattle.lsm_table.proofs.WrittenTables.{written_none}
use Rattle.lsm_table.proofs.written.Written.take.Goals as goal

pub invariant_of-self-2 : goal.invariant_of-self-2
invariant_of-self-2 c = written_none c.self.inside.target c.clear.new.self.items c.take_behind.new.self.items c.new-self-inside.result c.self.invariant.draft.ranged c.clear.ensures.items c.in_ok-table.ensures.taken (c.new-self-inside.ensures c.self.inside.target)

pub returns-clause-found : goal.returns-clause-found
returns-clause-found c =
    let w = c.self.inside in
    let front : List ℕ = c.in_ok-front.front.items in
    let spelled : w.blocks.items ≡ entries (block_entries w.blocks.items) = c.self.invariant.spelled in
    let whole : c.in_ok-table.table ≡ front ++ w.blocks.items = c.in_ok-table.ensures.whole ∙ ap (λ (b : List ℕ). b ++ w.blocks.items) c.as_slice.ensures in
    let draft : Draft = record { target = w.target; entries = block_entries w.blocks.items } in
    c.in_ok-front.ensures c.in_ok-table.table (whole ∙ ap (λ (b : List ℕ). front ++ b) spelled ∙ ap (λ (d : Draft). front ++ entries d.entries) c.self.view_is)

pub returns-clause-empty : goal.returns-clause-empty
returns-clause-empty c =
    let none : block_entries c.take_behind.new.self.items ≡ [] = ap block_entries c.in_ok-table.ensures.taken ∙ none_read in
    let draft : List Entry → Draft = λ es. record { target = c.self.inside.target; entries = es } in
    rw (← c.self.view_is) (ap draft none)
