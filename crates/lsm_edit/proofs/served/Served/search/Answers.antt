use Rattle.lsm_edit.proofs.ServedPlaces.{levels_in_range}
use Rattle.lsm_edit.proofs.served.Served.search.Goals as goal

pub next_in-requires-clause-levels : goal.next_in-requires-clause-levels
next_in-requires-clause-levels c = levels_in_range c.args.self.now c.places.result.now c.places.ensures.all c.places.ensures.sound.0 c.places.ensures.sound.1
