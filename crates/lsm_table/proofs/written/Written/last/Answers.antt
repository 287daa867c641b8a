use Rattle.std.proofs.Common.{◌<◌, List, ℕ, length, arith, ap, sym, ◌∙◌}
use Rattle.std.specs.List.{slice_range}
use Rattle.lsm_key.specs.declared.entry.Entry.{Entry}
use Rattle.lsm_key.specs.Visible.{lent_entry}
use Rattle.lsm_block.specs.BlockReading.{entry_at}
use Rattle.lsm_block.specs.Indexed.{block_entries}
use Rattle.lsm_table.specs.Building.{IsLastEnd}
use Rattle.lsm_table.proofs.WrittenTables.{last_faultless, last_lent, written_end}
use Rattle.lsm_table.proofs.written.Written.last.Goals as goal

pub unreachable-requires : goal.unreachable-requires
unreachable-requires c =
    let w = c.self.inside in
    let es : List Entry = block_entries w.blocks.items in
    let some : 0 < length es = omega (arith, c.self.invariant.counted, c.if-self-eq0.false) in
    let end : IsLastEnd es w.blocks.items w.last w.measure.last_key = written_end w.target es w.count w.index.items w.blocks.items w.last w.measure c.self.invariant some in
    last_faultless es w.blocks.items w.last w.measure.last_key end c.in-Err.field-0 (ap (λ (b : List ℕ). entry_at (slice_range b w.last (length b))) (sym c.as_slice.ensures) ∙ c.in-Err.ensures)

pub returns : goal.returns
returns c =
    let w = c.self.inside in
    let es : List Entry = block_entries w.blocks.items in
    let some : 0 < length es = omega (arith, c.self.invariant.counted, c.if-self-eq0.false) in
    let end : IsLastEnd es w.blocks.items w.last w.measure.last_key = written_end w.target es w.count w.index.items w.blocks.items w.last w.measure c.self.invariant some in
    rw (← c.self.view_is) (last_lent es w.blocks.items w.last w.measure.last_key end (lent_entry c.in-Ok.entry) c.in-Ok.field-0-1.now (ap (λ (b : List ℕ). entry_at (slice_range b w.last (length b))) (sym c.as_slice.ensures) ∙ c.in-Ok.ensures))
