use Rattle.std.proofs.Common.{◌+◌, filter, List, drop, subst, sym, ap, ◌∙◌, arith}
use Rattle.std.proofs.lemmas.List.{append-nil, drop_all}
use Rattle.lsm_key.specs.declared.entry.Entry.{Entry}
use Rattle.lsm_edit.specs.declared.served.Placed.{Placed}
use Rattle.lsm_edit.proofs.CursorsOnward.{GathersOn, all_gathered, none_gathered, zero_ends, zero_more}
use Rattle.lsm_edit.proofs.LevelEntries.{is_of}
use Rattle.lsm_edit.proofs.served.cursors.zero_cursors.Goals as goal

pub loop-placed-init : goal.loop-placed-init
loop-placed-init c =
    let zero = filter (is_of 0) c.args.places.now in
    subst (λ (lists : List (List Entry)). GathersOn c.args.lo.now zero lists zero) (sym c.new-cursors.ensures.items) (none_gathered c.args.lo.now zero)

pub loop-placed-preserved : goal.loop-placed-preserved
loop-placed-preserved c =
    let places = c.args.places.now in
    let own = c.new.ensures ∙ append-nil c.cursor_from.result ∙ c.cursor_from.ensures.left in
    subst (λ (lists : List (List Entry)). GathersOn c.args.lo.now (filter (is_of 0) places) lists (filter (is_of 0) (drop (c.loop-placed.placed-index + 1) places))) (sym c.in_ok-push.ensures.items)
    (zero_more c.args.lo.now places c.requires.recorded c.requires.ordered c.loop-placed.placed-index c.placed-item.result c.loop-placed-test.true c.placed-item.is c.loop-placed.cursors.items c.loop-placed.invariant c.new.result (omega (arith, c.if-placed-gt0.false)) own)

pub returns-then-placed-gt0-clause-all : goal.returns-then-placed-gt0-clause-all
returns-then-placed-gt0-clause-all c = zero_ends c.args.lo.now c.args.places.now c.requires.recorded c.requires.ordered c.loop-placed.placed-index c.placed-item.result c.loop-placed-test.true c.placed-item.is c.loop-placed.cursors.items c.loop-placed.invariant (omega (arith, c.if-placed-gt0.true))

pub returns-then-placed-gt0-clause-order : goal.returns-then-placed-gt0-clause-order
returns-then-placed-gt0-clause-order c = c.loop-placed.invariant.order

pub returns-clause-all : goal.returns-clause-all
returns-clause-all c =
    let places = c.args.places.now in
    let none = ap (filter (is_of 0)) (drop_all c.loop-placed.placed-index places c.loop-placed-test.false) in
    all_gathered c.args.lo.now (filter (is_of 0) places) c.loop-placed.cursors.items (subst (λ (ps : List Placed). GathersOn c.args.lo.now (filter (is_of 0) places) c.loop-placed.cursors.items ps) none c.loop-placed.invariant)

pub returns-clause-order : goal.returns-clause-order
returns-clause-order c = c.loop-placed.invariant.order
