use Rattle.std.proofs.Common.{◌∙◌, ap, List}
use Rattle.lsm_key.specs.Places.{first_visible}
use Rattle.lsm_key.proofs.FirstVisible.{first_visible-is}
use Rattle.lsm_edit.specs.Served.{tables_of}
use Rattle.lsm_edit.specs.declared.served.Placed.{Placed}
use Rattle.lsm_edit.proofs.ServedPlaces.{levels_in_range}
use Rattle.lsm_edit.proofs.served.Served.get_at.Goals as goal

pub first_in-requires-clause-levels : goal.first_in-requires-clause-levels
first_in-requires-clause-levels c = levels_in_range c.args.self.now c.places.result.now c.places.ensures.all c.places.ensures.sound.0 c.places.ensures.sound.1

pub returns-clause-found : goal.returns-clause-found
returns-clause-found c = λ ordered.
    c.first_in.ensures
    ∙ ap (λ (ps : List Placed). first_visible (tables_of ps) c.args.key.now c.args.at) c.places.ensures.all
    ∙ first_visible-is (tables_of c.args.self.now.places) c.args.key.now c.args.at ordered
