use Rattle.lsm_edit.proofs.CoveredFiles.{zero_done, zero_next}
use Rattle.std.proofs.Common.{sym, ◌∙◌}
use Rattle.lsm_edit.proofs.served.search.in_level_zero.Goals as goal

pub returns-then-placed-gt0-clause-none : goal.returns-then-placed-gt0-clause-none
returns-then-placed-gt0-clause-none c = zero_done c.args.places.now c.requires.ordered c.args.key.now c.args.from c.loop-place.place c.index-places-place.result c.loop-place-test.true c.index-places-place.is c.loop-place.invariant.2 c.if-placed-gt0.true

pub returns-then-covers-clause-found : goal.returns-then-covers-clause-found
returns-then-covers-clause-found c = zero_next c.args.places.now c.requires.ordered c.args.key.now c.args.from c.loop-place.place c.index-places-place.result c.loop-place-test.true c.index-places-place.is c.loop-place.invariant.2 c.loop-place.invariant.0 (sym c.covers.ensures ∙ c.if-covers.true)
