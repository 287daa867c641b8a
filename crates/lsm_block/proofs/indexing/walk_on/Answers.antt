use Rattle.std.proofs.Common.{length, sym, refl, ◌∙◌, ◌++◌, ◌∷◌, [], arith}
use Rattle.std.proofs.lemmas.Bool.{eqb-true, eqb-false}
use Rattle.std.proofs.lemmas.List.{take_rest, length-append}
use Rattle.lsm_key.specs.Visible.{lent_entry}
use Rattle.lsm_block.specs.Indexed.{entries_before}
use Rattle.lsm_block.proofs.IndexedSoFar.{walk_starts, walk_fails, walk_shortens, walk_goes_on, walk_ends, counted_more, last_there, place_is}
use Rattle.lsm_block.proofs.ReadBlocks.{walked_all}
use Rattle.lsm_block.proofs.indexing.walk_on.Goals as goal

pub loop-found-init : goal.loop-found-init
loop-found-init c =
    let bytes = c.args.bytes.now in
    (entries_before bytes c.args.begin, rw (take_rest bytes c.args.begin) (walk_starts c.args.max_key bytes c.args.begin c.args.found.now c.args.last_key.now c.args.last_seq c.know_slice.ensures c.requires.known c.requires.last))

pub returns-in-Err-clause-err : goal.returns-in-Err-clause-err
returns-in-Err-clause-err c =
    let w = c.loop-found.invariant in
    walk_fails _ c.requires.limit _ _ w.0 _ _ _ _ _ _ _ w.1 c.in-Err.fault (c.in-Err.ensures w.0 w.1.last)

pub returns-then-is_empty-clause-ok : goal.returns-then-is_empty-clause-ok
returns-then-is_empty-clause-ok c =
    let w = c.loop-found.invariant in
    let e = lent_entry c.in-Ok.found.0 in
    let after = c.in-Ok.found.1.now in
    let read = c.in-Ok.ensures w.0 w.1.last in
    let fenced = c.in_ok-add_fence.ensures w.0 e w.1.fenced (place_is _ c.requires.limit _ _ w.0 _ _ _ _ _ _ _ w.1) refl in
    let none = eqb-true (length after) 0 (sym c.is_empty.ensures ∙ c.if-is_empty.true) in
    let ends = walk_ends _ c.requires.limit _ _ w.0 _ _ _ _ _ _ _ w.1 e after read _ _ _ fenced none in
    let counted = counted_more _ c.requires.limit _ _ w.0 _ _ _ _ _ _ _ w.1 e after read _ _ _ fenced in
    let last = last_there _ c.requires.limit _ _ w.0 _ _ _ _ _ _ _ w.1 e after read _ _ _ fenced in
    walked_all _ c.args.bytes.now (w.0 ++ e ∷ []) _ (omega (arith, length-append w.0 (e ∷ []))) ends.0 ends.1 (record { fenced = fenced; counted = counted; ends = λ some. last })

pub loop-found-smaller : goal.loop-found-smaller
loop-found-smaller c =
    let w = c.loop-found.invariant in
    walk_shortens _ c.requires.limit _ _ w.0 _ _ _ _ _ _ _ w.1 (lent_entry c.in-Ok.found.0) c.in-Ok.found.1.now (c.in-Ok.ensures w.0 w.1.last)

pub loop-found-preserved : goal.loop-found-preserved
loop-found-preserved c =
    let w = c.loop-found.invariant in
    let e = lent_entry c.in-Ok.found.0 in
    let after = c.in-Ok.found.1.now in
    let read = c.in-Ok.ensures w.0 w.1.last in
    let fenced = c.in_ok-add_fence.ensures w.0 e w.1.fenced (place_is _ c.requires.limit _ _ w.0 _ _ _ _ _ _ _ w.1) refl in
    let some = eqb-false (length after) 0 (sym c.is_empty.ensures ∙ c.if-is_empty.false) in
    (w.0 ++ e ∷ [], walk_goes_on _ c.requires.limit _ _ w.0 _ _ _ _ _ _ _ w.1 e after read _ _ _ fenced some)
