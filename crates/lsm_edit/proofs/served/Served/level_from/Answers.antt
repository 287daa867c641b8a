use Rattle.std.proofs.Common.{◌∙◌, List, filter, not, ap, sym}
use Rattle.std.proofs.lemmas.List.{take_rest}
use Rattle.lsm_key.proofs.RangeSlices.{filter_rest}
use Rattle.lsm_edit.specs.declared.served.Placed.{Placed}
use Rattle.lsm_edit.specs.Served.{comes_left}
use Rattle.lsm_edit.proofs.served.Served.level_from.Goals as goal

pub returns-clause-from : goal.returns-clause-from
returns-clause-from c =
    let places = c.places-places.result.now in
    let left = comes_left c.args.level c.args.key.now in
    let start = c.place_in-start.result in
    take_rest places start
    ∙ sym (filter_rest left left places start c.place_in-start.ensures.point)
    ∙ ap (λ (ps : List Placed). filter (λ p. not (left p)) ps) c.places-places.ensures.all
