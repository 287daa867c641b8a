use Rattle.std.proofs.Common.{List, ℕ, length, true, false, sym, ap, subst, ◌≡◌, ◌∙◌}
use Rattle.std.specs.Ordering.{is_lt}
use Rattle.std.proofs.lemmas.Bool.{eqb-true, eqb-false}
use Rattle.lsm_block.specs.Ranges.{is_below, StartsFrom}
use Rattle.lsm_block.specs.Spans.{IsSpan}
use Rattle.lsm_block.proofs.RangeLoops.{gathers, gathered, gathers_on}
use Rattle.lsm_block.proofs.SpanFronts.{step, no_more}
use Rattle.lsm_block.proofs.ranges.entries_between.Goals as goal

pub loop-hi-init : goal.loop-hi-init
loop-hi-init c es span =
    let place = c.lower_in.ensures.place es (subst (λ (b : List ℕ). IsSpan b es) (sym c.as_slice.ensures) span) in
    rw (c.new-entries.ensures.items, c.in_ok-rest.ensures.ok) (gathers c.args.bytes.now es c.args.lo.now c.args.hi.now c.lower_in.result span place)

pub returns-then-not-is_lt : goal.returns-then-not-is_lt
returns-then-not-is_lt c es span =
    let some = eqb-false (length c.loop-hi.rest) 0 (sym c.is_empty.ensures ∙ c.loop-hi-test.true) in
    let g = c.loop-hi.invariant es span in
    let s = step c.loop-hi.rest g.more g.span some c.in-Ok.entry c.read_entry.new.rest c.in-Ok.ensures in
    let past : is_below c.args.hi.now c.in-Ok.entry ≡ false = rw c.as_slice-in-loop-hi.ensures at (sym (ap is_lt c.cmp.ensures) ∙ sym c.is_lt.ensures ∙ c.if-not-is_lt.true) in
    gathered es c.args.lo.now c.args.hi.now c.loop-hi.entries.items c.loop-hi.rest g (subst (StartsFrom c.args.hi.now) (sym s.1) past)

pub loop-hi-smaller : goal.loop-hi-smaller
loop-hi-smaller c =
    let some = eqb-false (length c.loop-hi.rest) 0 (sym c.is_empty.ensures ∙ c.loop-hi-test.true) in
    let g = c.loop-hi.invariant c.requires.known.0 c.requires.known.1 in
    (step c.loop-hi.rest g.more g.span some c.in-Ok.entry c.read_entry.new.rest c.in-Ok.ensures).2.1

pub loop-hi-preserved : goal.loop-hi-preserved
loop-hi-preserved c es span =
    let some = eqb-false (length c.loop-hi.rest) 0 (sym c.is_empty.ensures ∙ c.loop-hi-test.true) in
    let g = c.loop-hi.invariant es span in
    let s = step c.loop-hi.rest g.more g.span some c.in-Ok.entry c.read_entry.new.rest c.in-Ok.ensures in
    let low : is_below c.args.hi.now c.in-Ok.entry ≡ true = rw c.as_slice-in-loop-hi.ensures at (sym (ap is_lt c.cmp.ensures) ∙ sym c.is_lt.ensures ∙ c.if-not-is_lt.false) in
    rw c.in_ok-push.ensures.items (gathers_on es c.args.lo.now c.args.hi.now c.loop-hi.entries.items c.loop-hi.rest g c.in-Ok.entry s.0 c.read_entry.new.rest s.1 s.2.0 low)

pub returns : goal.returns
returns c es span =
    let g = c.loop-hi.invariant es span in
    let none = no_more c.loop-hi.rest g.more g.span (eqb-true (length c.loop-hi.rest) 0 (sym c.is_empty.ensures ∙ c.loop-hi-test.false)) in
    gathered es c.args.lo.now c.args.hi.now c.loop-hi.entries.items c.loop-hi.rest g (subst (StartsFrom c.args.hi.now) (sym none) tt)
