use Rattle.std.proofs.Common.{◌≤◌, ℕ, List, length, subst, sym, ◌∙◌}
use Rattle.lsm_block.specs.Indexed.{block_entries}
use Rattle.lsm_block.specs.Spans.{IsSpan}
use Rattle.lsm_block.proofs.BlockEntries.{fences_of, span_of}
use Rattle.lsm_block.proofs.CursorPlaces.{lower_place}
use Rattle.lsm_block.proofs.block.Block.cursor_from.Goals as goal

pub lower_in-place-requires-clause-fenced : goal.lower_in-place-requires-clause-fenced
lower_in-place-requires-clause-fenced c es span =
    rw c.deref.ensures (fences_of c.self.inside.bytes c.self.inside.index.value c.self.invariant es (subst (λ (b : List ℕ). IsSpan b es) c.as_slice.ensures span))

pub new-requires : goal.new-requires
new-requires c =
    let bytes = c.self.inside.bytes in
    let es : List _ = block_entries bytes in
    let span = span_of bytes es c.self.invariant.block in
    let within = subst (λ (b : List ℕ). c.lower_in-place.result ≤ length b) c.as_slice.ensures c.lower_in-place.ensures.within in
    (lower_place bytes es c.args.lo.now c.lower_in-place.result within span (c.lower_in-place.ensures.place es (subst (λ (b : List ℕ). IsSpan b es) (sym c.as_slice.ensures) span))).0

pub returns : goal.returns
returns c =
    let bytes = c.self.inside.bytes in
    let es : List _ = block_entries bytes in
    let span = span_of bytes es c.self.invariant.block in
    let within = subst (λ (b : List ℕ). c.lower_in-place.result ≤ length b) c.as_slice.ensures c.lower_in-place.ensures.within in
    let at = lower_place bytes es c.args.lo.now c.lower_in-place.result within span (c.lower_in-place.ensures.place es (subst (λ (b : List ℕ). IsSpan b es) (sym c.as_slice.ensures) span)) in
    rw (← c.self.view_is) (c.new.ensures ∙ at.1)
