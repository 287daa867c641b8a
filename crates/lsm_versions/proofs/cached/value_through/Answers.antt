use Rattle.std.proofs.Common.{ap, sym, ◌∙◌}
use Rattle.std.specs.Option.{option_and_then}
use Rattle.lsm_key.specs.Visible.{entry_value}
use Rattle.lsm_edit.proofs.CoveredFiles.{search_ends, search_finds, search_goes_on}
use Rattle.lsm_versions.proofs.CachedReads.{file_at}
use Rattle.lsm_versions.proofs.cached.value_through.Goals as goal

pub returns-in-None-clause-copied : goal.returns-in-None-clause-copied
returns-in-None-clause-copied c =
    (sym (ap (option_and_then entry_value) (search_ends c.args.served.now.places c.args.key.now c.args.at c.loop-place.from c.places-places.ensures.sound.0.recorded c.loop-place.invariant.2 c.in-None.ensures.none)), tt)

pub value_in-requires : goal.value_in-requires
value_in-requires c =
    let at = file_at c.args.served.now c.places-places.ensures.sound _ c.in-Some.place _ c.places-places.ensures.all c.in-Some.ensures.within c.index-places-place.is _ _ c.new-table.ensures.number c.new-table.ensures.table in
    at.holds c.loop-place.cache c.loop-place.invariant.3

pub returns-in-Some-value_in-clause-copied : goal.returns-in-Some-value_in-clause-copied
returns-in-Some-value_in-clause-copied c =
    let at = file_at c.args.served.now c.places-places.ensures.sound _ c.in-Some.place _ c.places-places.ensures.all c.in-Some.ensures.within c.index-places-place.is _ _ c.new-table.ensures.number c.new-table.ensures.table in
    let some = c.in-Some-value_in.ensures.some in
    rw (search_finds c.args.served.now.places c.args.key.now c.args.at c.loop-place.from c.places-places.ensures.sound.0.recorded c.loop-place.invariant.2 c.in-Some.place at.file c.in-Some.ensures.within at.here c.in-Some.ensures.found some.0 (at.shows c.args.key.now c.args.at ∙ some.1)) some.2

pub returns-in-Some-value_in-clause-held : goal.returns-in-Some-value_in-clause-held
returns-in-Some-value_in-clause-held c =
    let at = file_at c.args.served.now c.places-places.ensures.sound _ c.in-Some.place _ c.places-places.ensures.all c.in-Some.ensures.within c.index-places-place.is _ _ c.new-table.ensures.number c.new-table.ensures.table in
    at.keeps c.loop-place.cache c.value_in.new.cache c.loop-place.invariant.3 c.value_in.ensures.held

pub loop-place-preserved : goal.loop-place-preserved
loop-place-preserved c =
    let at = file_at c.args.served.now c.places-places.ensures.sound _ c.in-Some.place _ c.places-places.ensures.all c.in-Some.ensures.within c.index-places-place.is _ _ c.new-table.ensures.number c.new-table.ensures.table in
    let on = search_goes_on c.args.served.now.places c.args.key.now c.args.at c.loop-place.from c.places-places.ensures.sound.0.recorded c.loop-place.invariant.2 c.in-Some.place at.file c.in-Some.ensures.within at.here c.in-Some.ensures.found (at.shows c.args.key.now c.args.at ∙ c.in-None-value_in.ensures.none) in
    (on.0, on.1, on.2, at.keeps c.loop-place.cache c.value_in.new.cache c.loop-place.invariant.3 c.value_in.ensures.held)
