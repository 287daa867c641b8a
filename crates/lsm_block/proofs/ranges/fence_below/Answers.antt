use Rattle.std.proofs.Common.{arith}
use Rattle.lsm_block.proofs.SoughtFences.{prefixes_ascend}
use Rattle.lsm_block.proofs.SpanRanges.{fence_skips, skips_within}
use Rattle.lsm_block.proofs.ranges.fence_below.Goals as goal

pub lower_of-requires-clause-sorted : goal.lower_of-requires-clause-sorted
lower_of-requires-clause-sorted c =
    let f = c.args.fences.now in
    let known = c.requires.known in
    prefixes_ascend f.front c.args.bytes.now f.prefixes.items f.places.items known.0 known.1 (c.requires.fenced known.0 known.1) (λ i. omega (arith, c.type_inv.bytes i))

pub lower_of-requires-clause-paired : goal.lower_of-requires-clause-paired
lower_of-requires-clause-paired c = (c.requires.fenced c.requires.known.0 c.requires.known.1).paired

pub returns-clause-within : goal.returns-clause-within
returns-clause-within c =
    let f = c.args.fences.now in
    let known = c.requires.known in
    skips_within c.args.bytes.now known.0 c.args.lo.now c.lower_of.result known.1
    (fence_skips f.front c.args.bytes.now f.prefixes.items f.places.items known.0 c.args.lo.now c.lower_of.result known.1 (λ i. omega (arith, c.type_inv.lo i)) (c.requires.fenced known.0 known.1) c.lower_of.ensures)

pub returns-clause-place : goal.returns-clause-place
returns-clause-place c es span =
    let f = c.args.fences.now in
    fence_skips f.front c.args.bytes.now f.prefixes.items f.places.items es c.args.lo.now c.lower_of.result span (λ i. omega (arith, c.type_inv.lo i)) (c.requires.fenced es span) c.lower_of.ensures
