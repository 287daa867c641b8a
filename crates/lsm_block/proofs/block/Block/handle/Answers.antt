use Rattle.std.proofs.Common.{List, ℕ, sym, subst}
use Rattle.lsm_block.specs.Indexed.{block_entries}
use Rattle.lsm_block.specs.Spans.{IsSpan}
use Rattle.lsm_block.proofs.BlockEntries.{fences_of, span_of}
use Rattle.lsm_block.proofs.block.Block.handle.Goals as goal

pub handle_in-requires-clause-fenced : goal.handle_in-requires-clause-fenced
handle_in-requires-clause-fenced c es span =
    rw c.deref.ensures (fences_of c.self.inside.bytes c.self.inside.index.value c.self.invariant es (subst (λ (b : List ℕ). IsSpan b es) c.as_slice.ensures span))

pub returns : goal.returns
returns c =
    let bytes = c.self.inside.bytes in
    rw (← c.self.view_is) (c.handle_in.ensures (block_entries bytes) (subst (λ (b : List ℕ). IsSpan b (block_entries bytes)) (sym c.as_slice.ensures) (span_of bytes (block_entries bytes) c.self.invariant.block)))
