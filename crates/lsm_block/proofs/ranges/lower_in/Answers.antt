use Rattle.std.proofs.Common.{length, sym, ap, subst, ◌∙◌}
use Rattle.std.specs.Ordering.{is_lt}
use Rattle.std.proofs.lemmas.Bool.{eqb-true, eqb-false}
use Rattle.lsm_key.specs.Visible.{lent_entry}
use Rattle.lsm_block.specs.Ranges.{StartsFrom}
use Rattle.lsm_block.proofs.SpanFronts.{faultless, step, no_more}
use Rattle.lsm_block.proofs.SpanRanges.{starts, goes_on, place_is}
use Rattle.lsm_block.proofs.ranges.lower_in.Goals.{else-loop-lo-test, then-loop-lo-test+in-Ok+then-not-is_lt}
use Rattle.lsm_block.proofs.ranges.lower_in.Goals as goal

pub loop-lo-init : goal.loop-lo-init
loop-lo-init c es span = starts c.args.bytes.now es c.args.lo.now c.fence_below-begin.result span (c.fence_below-begin.ensures.place es span)

pub returns-in-Err-clause-place : goal.returns-in-Err-clause-place
returns-in-Err-clause-place c es span =
    let some = eqb-false (length c.loop-lo.rest.now) 0 (sym c.is_empty.ensures ∙ c.loop-lo-test.true) in
    let b = c.loop-lo.invariant es span in
    absurd (faultless c.loop-lo.rest.now b.more b.span some c.in-Err.field-0 c.in-Err.ensures)

pub loop-lo-smaller : goal.loop-lo-smaller
loop-lo-smaller c =
    let some = eqb-false (length c.loop-lo.rest.now) 0 (sym c.is_empty.ensures ∙ c.loop-lo-test.true) in
    let b = c.loop-lo.invariant c.requires.known.0 c.requires.known.1 in
    (step c.loop-lo.rest.now b.more b.span some (lent_entry c.in-Ok.found.0) c.in-Ok.found.1.now c.in-Ok.ensures).2.1

pub loop-lo-preserved : goal.loop-lo-preserved
loop-lo-preserved c es span =
    let some = eqb-false (length c.loop-lo.rest.now) 0 (sym c.is_empty.ensures ∙ c.loop-lo-test.true) in
    let b = c.loop-lo.invariant es span in
    let s = step c.loop-lo.rest.now b.more b.span some (lent_entry c.in-Ok.found.0) c.in-Ok.found.1.now c.in-Ok.ensures in
    goes_on es c.args.lo.now c.loop-lo.rest.now b (lent_entry c.in-Ok.found.0) s.0 c.in-Ok.found.1.now s.1 s.2.0 (sym (ap is_lt c.cmp.ensures) ∙ sym c.is_lt.ensures ∙ c.if-not-is_lt.false)

pub returns-clause-place : goal.returns-clause-place
returns-clause-place c es span =
    let b = c.loop-lo.invariant es span in
    elim c.loop-lo-test.branch [
      | else-loop-lo-test w ↦
          let none = no_more c.loop-lo.rest.now b.more b.span (eqb-true (length c.loop-lo.rest.now) 0 (sym c.is_empty.ensures ∙ w.loop-lo-test.false)) in
          place_is c.args.bytes.now es c.args.lo.now c.loop-lo.rest.now span b (subst (StartsFrom c.args.lo.now) (sym none) tt)
      | then-loop-lo-test+in-Ok+then-not-is_lt w ↦
          let some = eqb-false (length c.loop-lo.rest.now) 0 (sym c.is_empty.ensures ∙ w.loop-lo-test.true) in
          let s = step c.loop-lo.rest.now b.more b.span some (lent_entry w.in-Ok.found.0) w.in-Ok.found.1.now w.in-Ok.ensures in
          place_is c.args.bytes.now es c.args.lo.now c.loop-lo.rest.now span b (subst (StartsFrom c.args.lo.now) (sym s.1) (sym (ap is_lt w.cmp.ensures) ∙ sym w.is_lt.ensures ∙ w.if-not-is_lt.true))
    ]
