use Rattle.std.proofs.Common.{◌≡◌, arith, false, subst, sym, ◌∙◌}
use Rattle.lsm_edit.specs.declared.served.Placed.{Placed}
use Rattle.lsm_edit.specs.Served.{comes_left}
use Rattle.lsm_edit.proofs.CoveredFiles.{next_there, past_end, past_place}
use Rattle.lsm_edit.proofs.served.search.in_level.Goals as goal

pub returns-then-place-places-clause-none : goal.returns-then-place-places-clause-none
returns-then-place-places-clause-none c = past_end c.args.places.now c.requires.ordered c.args.level c.args.key.now c.requires.deeper c.args.from c.requires.done (λ k d low lt. c.place_in-place.ensures.point.0 k d low (omega (arith, lt)))

pub returns-then-placed-level-clause-none : goal.returns-then-placed-level-clause-none
returns-then-placed-level-clause-none c =
    let p = c.index-places-place.result in
    let out : comes_left c.args.level c.args.key.now p ≡ false = subst (λ (x : Placed). comes_left c.args.level c.args.key.now x ≡ false) (sym c.index-places-place.is) (c.place_in-place.ensures.point.1 c.place_in-place.result p (omega arith) (omega arith)) in
    past_place c.args.places.now c.requires.ordered c.args.level c.args.key.now c.requires.deeper c.args.from c.requires.done c.place_in-place.result p (omega arith) c.index-places-place.is c.place_in-place.ensures.point.0 out (λ e. absurd (c.if-placed-level.true e))

pub returns-then-not-covers-clause-none : goal.returns-then-not-covers-clause-none
returns-then-not-covers-clause-none c =
    let p = c.index-places-place.result in
    let out : comes_left c.args.level c.args.key.now p ≡ false = subst (λ (x : Placed). comes_left c.args.level c.args.key.now x ≡ false) (sym c.index-places-place.is) (c.place_in-place.ensures.point.1 c.place_in-place.result p (omega arith) (omega arith)) in
    past_place c.args.places.now c.requires.ordered c.args.level c.args.key.now c.requires.deeper c.args.from c.requires.done c.place_in-place.result p (omega arith) c.index-places-place.is c.place_in-place.ensures.point.0 out (λ e. sym c.covers.ensures ∙ c.if-not-covers.true)

pub returns-clause-found : goal.returns-clause-found
returns-clause-found c = next_there c.args.places.now c.requires.ordered c.args.level c.args.key.now c.requires.deeper c.args.from c.requires.done c.place_in-place.result c.index-places-place.result (omega arith) c.index-places-place.is c.place_in-place.ensures.point.0 (omega (arith, c.if-placed-level.false)) (sym c.covers.ensures ∙ c.if-not-covers.false) c.requires.before
