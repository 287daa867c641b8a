use Rattle.std.proofs.Common.{subst}
use Rattle.lsm_edit.specs.Served.{IsServed}
use Rattle.lsm_versions.specs.Opening.{ArePlacesKept}
use Rattle.lsm_coord.proofs.RestartStops.{stops}
use Rattle.lsm_coord.proofs.coord.Coord.close.Goals as goal

pub returns-clause-stops : goal.returns-clause-stops
returns-clause-stops g c =
    let m = c.self.inside in
    let served : IsServed m.versions.served = subst IsServed c.served.ensures.served c.listing-listing.ensures.sound.0 in
    let kept : ArePlacesKept m.versions.stored.tables m.versions.served.places = c.served.ensures.set.kept.listed in
    rw (← c.self.view_is) (λ s h. stops _ s h served kept)
