use Rattle.std.proofs.Common.{◌||◌, Bool, length, refl, sym, ap, ◌∙◌}
use Rattle.std.specs.List.{list_any}
use Rattle.std.proofs.lemmas.Bool.{eqb-true, eqb-false}
use Rattle.lsm_key.specs.Visible.{lent_entry}
use Rattle.lsm_block.proofs.SpanFronts.{faultless, step, no_more}
use Rattle.lsm_merge.proofs.InputTests.{in_one}
use Rattle.lsm_merge.proofs.inputs.shares_entry.Goals as goal

pub loop-rest-init : goal.loop-rest-init
loop-rest-init c = (c.args.table.now.entries, c.span-rest.ensures, refl)

pub returns-in-Err : goal.returns-in-Err
returns-in-Err c =
    let w = c.loop-rest.invariant in
    absurd (faultless c.loop-rest.rest.now w.0 w.1 (eqb-false (length c.loop-rest.rest.now) 0 (sym c.is_empty.ensures ∙ c.loop-rest-test.true)) c.in-Err.field-0 c.in-Err.ensures)

pub returns-then-is_in_one : goal.returns-then-is_in_one
returns-then-is_in_one c =
    let w = c.loop-rest.invariant in
    let s = step c.loop-rest.rest.now w.0 w.1 (eqb-false (length c.loop-rest.rest.now) 0 (sym c.is_empty.ensures ∙ c.loop-rest-test.true)) (lent_entry c.in-Ok.found.0) c.in-Ok.found.1.now c.in-Ok.ensures in
    sym (w.2 ∙ ap (list_any (in_one c.args.later.now)) s.1 ∙ ap (λ (b : Bool). b || list_any (in_one c.args.later.now) s.0) (sym c.is_in_one.ensures ∙ c.if-is_in_one.true))

pub loop-rest-smaller : goal.loop-rest-smaller
loop-rest-smaller c =
    let w = c.loop-rest.invariant in
    (step c.loop-rest.rest.now w.0 w.1 (eqb-false (length c.loop-rest.rest.now) 0 (sym c.is_empty.ensures ∙ c.loop-rest-test.true)) (lent_entry c.in-Ok.found.0) c.in-Ok.found.1.now c.in-Ok.ensures).2.1

pub loop-rest-preserved : goal.loop-rest-preserved
loop-rest-preserved c =
    let w = c.loop-rest.invariant in
    let s = step c.loop-rest.rest.now w.0 w.1 (eqb-false (length c.loop-rest.rest.now) 0 (sym c.is_empty.ensures ∙ c.loop-rest-test.true)) (lent_entry c.in-Ok.found.0) c.in-Ok.found.1.now c.in-Ok.ensures in
    (s.0, s.2.0, w.2 ∙ ap (list_any (in_one c.args.later.now)) s.1 ∙ ap (λ (b : Bool). b || list_any (in_one c.args.later.now) s.0) (sym c.is_in_one.ensures ∙ c.if-is_in_one.false))

pub returns : goal.returns
returns c =
    let w = c.loop-rest.invariant in
    sym (w.2 ∙ ap (list_any (in_one c.args.later.now)) (no_more c.loop-rest.rest.now w.0 w.1 (eqb-true (length c.loop-rest.rest.now) 0 (sym c.is_empty.ensures ∙ c.loop-rest-test.false))))
