use Rattle.std.proofs.Common.{◌≡◌, ◌<◌, ◌+◌, ◌++◌, ℕ, List, length, arith, ap, sym, subst, ◌∙◌}
use Rattle.std.specs.Int.{w32, to_be_bytes}
use Rattle.lsm_key.specs.declared.entry.Entry.{Entry}
use Rattle.lsm_block.specs.Blocks.{entries}
use Rattle.lsm_block.specs.BlockReading.{last_of}
use Rattle.lsm_block.specs.Indexed.{block_entries}
use Rattle.lsm_key.specs.Places.{all_entries}
use Rattle.lsm_table.specs.Cuts.{cut_of}
use Rattle.lsm_table.specs.Building.{Draft, IsLastEnd}
use Rattle.lsm_table.specs.Tables.{IsTable, end_key, header, target_of}
use Rattle.lsm_table.proofs.BuilderDrafts.{draft_small}
use Rattle.lsm_table.proofs.TableCuts.{cut_all}
use Rattle.lsm_table.proofs.TableSizes.{made, table_size}
use Rattle.lsm_table.proofs.WrittenTables.{written_all, written_end}
use Rattle.lsm_table.proofs.written.Written.front.Goals as goal

pub table_len-requires-clause-small : goal.table_len-requires-clause-small
table_len-requires-clause-small c =
    let w = c.self.inside in
    let small = draft_small w.target (block_entries w.blocks.items) w.measure c.self.invariant.draft.measured c.self.invariant.draft.small in
    omega (arith, small)

pub overflow_sub-len : goal.overflow_sub-len
overflow_sub-len c =
    let w = c.self.inside in
    let es : List Entry = block_entries w.blocks.items in
    let some : 0 < length es = subst (λ (d : Draft). 0 < length d.entries) (sym c.self.view_is) c.requires in
    let whole : length (entries (all_entries (cut_of w.target es))) ≡ length (entries es) = ap (λ (xs : List Entry). length (entries xs)) (cut_all w.target es) in
    omega (arith, table_size w.target (cut_of w.target es), whole, c.table_len.ensures w.target es c.self.invariant.draft.ranged.0 some c.self.invariant.draft.measured, c.self.invariant.draft.measured.weighed)

pub overflow_add-blocks : goal.overflow_add-blocks
overflow_add-blocks c =
    let w = c.self.inside in
    let small = draft_small w.target (block_entries w.blocks.items) w.measure c.self.invariant.draft.measured c.self.invariant.draft.small in
    omega (arith, small, c.self.invariant.draft.measured.light.closed, c.self.invariant.draft.measured.light.index)

pub overflow_cast-measure : goal.overflow_cast-measure
overflow_cast-measure c =
    let w = c.self.inside in
    let small = draft_small w.target (block_entries w.blocks.items) w.measure c.self.invariant.draft.measured c.self.invariant.draft.small in
    omega (arith, small, c.self.invariant.draft.measured.light.index)

pub end_in-end-requires : goal.end_in-end-requires
end_in-end-requires c =
    let w = c.self.inside in
    let es : List Entry = block_entries w.blocks.items in
    let some : 0 < length es = subst (λ (d : Draft). 0 < length d.entries) (sym c.self.view_is) c.requires in
    (es, subst (λ (b : List ℕ). IsLastEnd es b w.last w.measure.last_key) (sym c.as_slice-2.ensures) (written_end w.target es w.count w.index.items w.blocks.items w.last w.measure c.self.invariant some))

pub returns : goal.returns
returns c =
    let w = c.self.inside in
    let es : List Entry = block_entries w.blocks.items in
    let some : 0 < length es = subst (λ (d : Draft). 0 < length d.entries) (sym c.self.view_is) c.requires in
    let lent : IsLastEnd es c.as_slice-2.result.now w.last w.measure.last_key = subst (λ (b : List ℕ). IsLastEnd es b w.last w.measure.last_key) (sym c.as_slice-2.ensures) (written_end w.target es w.count w.index.items w.blocks.items w.last w.measure c.self.invariant some) in
    let front : List ℕ = header w.measure.version w.target w.count (w.measure.closed + 1) in
    let line : List ℕ → List ℕ = λ end. to_be_bytes w32 w.measure.last ++ end in
    let begun : c.write_header.new.out.items ≡ front = c.in_ok-write_header.ensures ∙ ap (λ (b : List ℕ). b ++ front) c.in_ok-front.ensures.items in
    let indexed : c.put_slice.new.self.items ≡ front ++ w.index.items = c.in_ok-put_slice.ensures.ok ∙ (λ i. begun i ++ c.as_slice.ensures i) in
    let lined : c.write_line.new.out.items ≡ (front ++ w.index.items) ++ line (end_key (last_of es)) = c.in_ok-write_line.ensures.ok ∙ (λ i. indexed i ++ line (c.end_in-end.ensures es lent i)) in
    subst (λ (d : Draft). (b : List ℕ) → b ≡ c.write_line.new.out.items ++ entries d.entries → IsTable b d.entries × (target_of b ≡ d.target)) c.self.view_is
    (λ b is.
    let spelled : b ≡ ((front ++ w.index.items) ++ line (end_key (last_of es))) ++ w.blocks.items = is ∙ (λ i. lined i ++ sym c.self.invariant.spelled i) in
    made w.target es b c.self.invariant.draft.ranged c.self.invariant.draft.sound c.self.invariant.draft.small some (written_all w.target es w.count w.index.items w.blocks.items w.last w.measure c.self.invariant some b spelled))
