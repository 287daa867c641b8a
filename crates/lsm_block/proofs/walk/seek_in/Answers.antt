use Rattle.std.proofs.Common.{length, sym, ap, ◌∙◌}
use Rattle.std.proofs.lemmas.Bool.{eqb-true, eqb-false}
use Rattle.std.specs.Ordering.{is_ne}
use Rattle.lsm_key.specs.Visible.{lent_entry}
use Rattle.lsm_key.proofs.EntryOrder.{keys_differ, keys_same}
use Rattle.lsm_block.proofs.SpanWalks.{starts, ends, not_faulty, shorter, goes_on, found, missed}
use Rattle.lsm_block.proofs.walk.seek_in.Goals as goal

pub loop-key-init : goal.loop-key-init
loop-key-init c = starts c.args.bytes.now c.args.key.now c.args.at

pub returns-in-Err : goal.returns-in-Err
returns-in-Err c es span =
    let some = eqb-false (length c.loop-key.rest.now) 0 (sym c.is_empty.ensures ∙ c.loop-key-test.true) in
    absurd (not_faulty es c.args.key.now c.args.at span.sound c.loop-key.rest.now (c.loop-key.invariant es span) some c.in-Err.field-0 c.in-Err.ensures)

pub returns-then-is_ne : goal.returns-then-is_ne
returns-then-is_ne c es span =
    let some = eqb-false (length c.loop-key.rest.now) 0 (sym c.is_empty.ensures ∙ c.loop-key-test.true) in
    let stays = sym c.stands_before.ensures ∙ c.if-not-stands_before.true in
    let apart = keys_differ c.in-Ok.found.0.key.now c.args.key.now (sym (ap is_ne c.cmp.ensures) ∙ sym c.is_ne.ensures ∙ c.if-is_ne.true) in
    sym (missed es c.args.key.now c.args.at span.sound c.loop-key.rest.now (c.loop-key.invariant es span) some (lent_entry c.in-Ok.found.0) c.in-Ok.found.1.now c.in-Ok.ensures stays apart)

pub returns-else-is_ne : goal.returns-else-is_ne
returns-else-is_ne c es span =
    let some = eqb-false (length c.loop-key.rest.now) 0 (sym c.is_empty.ensures ∙ c.loop-key-test.true) in
    let stays = sym c.stands_before.ensures ∙ c.if-not-stands_before.true in
    let tie = keys_same c.in-Ok.found.0.key.now c.args.key.now (sym (ap is_ne c.cmp.ensures) ∙ sym c.is_ne.ensures ∙ c.if-is_ne.false) in
    sym (found es c.args.key.now c.args.at span.sound c.loop-key.rest.now (c.loop-key.invariant es span) some (lent_entry c.in-Ok.found.0) c.in-Ok.found.1.now c.in-Ok.ensures stays tie)

pub loop-key-smaller : goal.loop-key-smaller
loop-key-smaller c =
    let some = eqb-false (length c.loop-key.rest.now) 0 (sym c.is_empty.ensures ∙ c.loop-key-test.true) in
    let span = c.requires in
    shorter span.0 c.args.key.now c.args.at span.1.sound c.loop-key.rest.now (c.loop-key.invariant span.0 span.1) some (lent_entry c.in-Ok.found.0) c.in-Ok.found.1.now c.in-Ok.ensures

pub loop-key-preserved : goal.loop-key-preserved
loop-key-preserved c es span =
    let some = eqb-false (length c.loop-key.rest.now) 0 (sym c.is_empty.ensures ∙ c.loop-key-test.true) in
    goes_on es c.args.key.now c.args.at span.sound c.loop-key.rest.now (c.loop-key.invariant es span) some (lent_entry c.in-Ok.found.0) c.in-Ok.found.1.now c.in-Ok.ensures (sym c.stands_before.ensures ∙ c.if-not-stands_before.false)

pub returns : goal.returns
returns c es span = sym (ends es c.args.key.now c.args.at span.sound c.loop-key.rest.now (c.loop-key.invariant es span) (eqb-true (length c.loop-key.rest.now) 0 (sym c.is_empty.ensures ∙ c.loop-key-test.false)))
