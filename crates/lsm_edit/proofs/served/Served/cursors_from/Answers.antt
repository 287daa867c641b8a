use Rattle.std.proofs.Common.{All, List, subst, sym, ap, ◌∙◌, arith}
use Rattle.std.proofs.lemmas.List.Elements.{All-push}
use Rattle.lsm_key.specs.declared.entry.Entry.{Entry}
use Rattle.lsm_key.specs.Order.{IsInOrder}
use Rattle.lsm_key.specs.Places.{all_entries}
use Rattle.lsm_edit.specs.Served.{AllRecorded, AreInSearchOrder, left_of}
use Rattle.lsm_edit.proofs.CursorsOnward.{level_more, level_none, level_sorted}
use Rattle.lsm_edit.proofs.LevelCursors.{onward}
use Rattle.lsm_edit.proofs.LevelEntries.{all_levels, level_zero}
use Rattle.lsm_edit.proofs.ServedPlaces.{levels_in_range}
use Rattle.lsm_edit.proofs.served.Served.cursors_from.Goals as goal

pub deepest_level-level-end-requires-clause-levels : goal.deepest_level-level-end-requires-clause-levels
deepest_level-level-end-requires-clause-levels c = levels_in_range c.args.self.now c.places-places.result.now c.places-places.ensures.all c.places-places.ensures.sound.0 c.places-places.ensures.sound.1

pub loop-level-init : goal.loop-level-init
loop-level-init c = (c.in_ok-cursors.ensures.all ∙ ap (onward c.args.lo.now) (level_zero c.places-places.result.now), c.in_ok-cursors.ensures.order)

pub loop-level-preserved-in_default : goal.loop-level-preserved-in_default
loop-level-preserved-in_default c =
    let ordered = subst AreInSearchOrder (sym c.places-places.ensures.all) c.places-places.ensures.sound.0.ordered in
    let none = ap left_of (sym c.in_default.is) ∙ c.level_cursor.ensures in
    (level_none c.args.lo.now c.loop-level.level c.places-places.result.now c.loop-level.cursors.items ordered c.loop-level.invariant.0 none, c.loop-level.invariant.1)

pub loop-level-preserved : goal.loop-level-preserved
loop-level-preserved c =
    let lo = c.args.lo.now in
    let level = c.loop-level.level in
    let places = c.places-places.result.now in
    let ordered = subst AreInSearchOrder (sym c.places-places.ensures.all) c.places-places.ensures.sound.0.ordered in
    let recorded = subst AllRecorded (sym c.places-places.ensures.all) c.places-places.ensures.sound.0.recorded in
    let lists : List (List Entry) = c.loop-level.cursors.items in
    let list : List Entry = c.in-Some.cursor in
    let own = c.in-Some.ensures in
    let sorted = subst IsInOrder (sym own) (level_sorted lo level places c.loop-level.auto.level recorded ordered) in (
      ap all_entries c.in_ok-push.ensures.items ∙ level_more lo level places lists list ordered c.loop-level.invariant.0 own,
      subst (All IsInOrder) (sym c.in_ok-push.ensures.items) (All-push IsInOrder lists list c.loop-level.invariant.1 sorted),
    )

pub returns-clause-all : goal.returns-clause-all
returns-clause-all c =
    let places = c.places-places.result.now in
    let all = all_levels c.loop-level.level places (λ p m.
    let most = c.deepest_level-level-end.ensures.deepest p m in
    omega (arith, most, c.loop-level-test.false)) in
    c.loop-level.invariant.0 ∙ ap (onward c.args.lo.now) (all ∙ c.places-places.ensures.all)

pub returns-clause-order : goal.returns-clause-order
returns-clause-order c = c.loop-level.invariant.1
