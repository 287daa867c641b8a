use Rattle.lsm_coord.proofs.LogCounts.{flush_counted}
use Rattle.lsm_coord.proofs.coord.Coord.flush_records.Goals as goal

pub returns-in-Some : goal.returns-in-Some
returns-in-Some g c =
    let m = c.self.inside in
    rw (← c.self.view_is) ((flush_counted m.active m.frozen m.newest m.versions.served.version.flushed m.versions.stored.log m.logged m.frozen_upto c.self.invariant.1 c.self.invariant.2).0 c.in-Some.field-0 c.in-Some.is)

pub returns-in-None : goal.returns-in-None
returns-in-None g c =
    let m = c.self.inside in
    rw (← c.self.view_is) ((flush_counted m.active m.frozen m.newest m.versions.served.version.flushed m.versions.stored.log m.logged m.frozen_upto c.self.invariant.1 c.self.invariant.2).1 c.in-None.is)
