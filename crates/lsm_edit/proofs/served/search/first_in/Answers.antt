use Rattle.std.proofs.Common.{arith, sym}
use Rattle.lsm_key.specs.Visible.{lent_entry}
use Rattle.lsm_edit.proofs.CoveredFiles.{search_ends, search_finds, search_goes_on}
use Rattle.lsm_edit.proofs.served.search.first_in.Goals as goal

pub returns-in-None : goal.returns-in-None
returns-in-None c = sym (search_ends c.args.places.now c.args.key.now c.args.at c.loop-place.from c.requires.recorded c.loop-place.invariant.2 c.in-None.ensures.none)

pub returns-in-Some-get : goal.returns-in-Some-get
returns-in-Some-get c = sym (search_finds c.args.places.now c.args.key.now c.args.at c.loop-place.from c.requires.recorded c.loop-place.invariant.2 c.in-Some.place c.index-places-place.result c.in-Some.ensures.within c.index-places-place.is c.in-Some.ensures.found (lent_entry c.in-Some-get.entry) (sym c.in-Some-get.ensures))

pub loop-place-smaller : goal.loop-place-smaller
loop-place-smaller c = omega (arith, c.in-Some.ensures.within, c.in-Some.ensures.found.after)

pub loop-place-preserved : goal.loop-place-preserved
loop-place-preserved c = search_goes_on c.args.places.now c.args.key.now c.args.at c.loop-place.from c.requires.recorded c.loop-place.invariant.2 c.in-Some.place c.index-places-place.result c.in-Some.ensures.within c.index-places-place.is c.in-Some.ensures.found (sym c.in-None-get.ensures)
