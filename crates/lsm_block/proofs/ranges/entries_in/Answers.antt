use Rattle.std.proofs.Common.{length, sym, ◌∙◌}
use Rattle.std.proofs.lemmas.Bool.{eqb-true, eqb-false}
use Rattle.lsm_block.proofs.RangeLoops.{gathered_all, all_on}
use Rattle.lsm_block.proofs.SpanFronts.{step, no_more}
use Rattle.lsm_block.proofs.ranges.entries_in.Goals as goal

pub loop-rest-smaller : goal.loop-rest-smaller
loop-rest-smaller c =
    let some = eqb-false (length c.loop-rest.rest) 0 (sym c.is_empty.ensures ∙ c.loop-rest-test.true) in
    let g = c.loop-rest.invariant c.requires.0 c.requires.1 in
    (step c.loop-rest.rest g.more g.span some c.in-Ok.entry c.read_entry.new.rest c.in-Ok.ensures).2.1

pub loop-rest-preserved : goal.loop-rest-preserved
loop-rest-preserved c es span =
    let some = eqb-false (length c.loop-rest.rest) 0 (sym c.is_empty.ensures ∙ c.loop-rest-test.true) in
    let g = c.loop-rest.invariant es span in
    let s = step c.loop-rest.rest g.more g.span some c.in-Ok.entry c.read_entry.new.rest c.in-Ok.ensures in
    rw c.in_ok-push.ensures.items (all_on es c.loop-rest.entries.items c.loop-rest.rest g c.in-Ok.entry s.0 c.read_entry.new.rest s.1 s.2.0)

pub returns : goal.returns
returns c es span =
    let g = c.loop-rest.invariant es span in
    gathered_all es c.loop-rest.entries.items c.loop-rest.rest g (no_more c.loop-rest.rest g.more g.span (eqb-true (length c.loop-rest.rest) 0 (sym c.is_empty.ensures ∙ c.loop-rest-test.false)))
