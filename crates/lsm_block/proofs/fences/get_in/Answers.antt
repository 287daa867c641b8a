use Rattle.std.proofs.Common.{sym, ◌∙◌, arith}
use Rattle.lsm_block.proofs.FencedSpans.{to_end}
use Rattle.lsm_block.proofs.SoughtFences.{first_begins, none_shows, prefixes_ascend}
use Rattle.lsm_block.proofs.fences.get_in.Goals as goal

pub first_of-requires-clause-sorted : goal.first_of-requires-clause-sorted
first_of-requires-clause-sorted c =
    let f = c.args.fences.now in
    let known = c.requires.known in
    prefixes_ascend f.front c.args.bytes.now f.prefixes.items f.places.items known.0 known.1 (c.requires.fenced known.0 known.1) (λ i. omega (arith, c.type_inv.bytes i))

pub first_of-requires-clause-paired : goal.first_of-requires-clause-paired
first_of-requires-clause-paired c = (c.requires.fenced c.requires.known.0 c.requires.known.1).paired

pub returns-in_default : goal.returns-in_default
returns-in_default c es span =
    let f = c.args.fences.now in
    sym (none_shows f.front c.args.bytes.now f.prefixes.items f.places.items es span (c.requires.fenced es span) c.args.key.now c.args.at c.in_default.ensures.none)

pub seek_in-requires : goal.seek_in-requires
seek_in-requires c =
    let f = c.args.fences.now in
    let known = c.requires.known in
    let b = first_begins f.front c.args.bytes.now f.prefixes.items f.places.items known.0 known.1 (c.requires.fenced known.0 known.1) c.args.key.now c.args.at c.in-Some.begin c.in-Some.ensures.found in
    (b.more, to_end c.args.bytes.now c.in-Some.begin b.more b.span)

pub returns : goal.returns
returns c es span =
    let f = c.args.fences.now in
    let b = first_begins f.front c.args.bytes.now f.prefixes.items f.places.items es span (c.requires.fenced es span) c.args.key.now c.args.at c.in-Some.begin c.in-Some.ensures.found in
    c.seek_in.ensures b.more (to_end c.args.bytes.now c.in-Some.begin b.more b.span) ∙ b.shows
