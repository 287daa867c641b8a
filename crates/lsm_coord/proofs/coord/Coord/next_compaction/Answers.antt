use Rattle.std.specs.Option.{option_copied}
use Rattle.lsm_pick.specs.declared.error.PickError.TheVariants.{OutOfMemory, TooWide}
use Rattle.lsm_coord.proofs.PickOrders.{given_both, given_so, none_so, orders_alike, refused_so}
use Rattle.lsm_coord.proofs.coord.Coord.next_compaction.Goals as goal

pub returns-clause-some : goal.returns-clause-some
returns-clause-some g c = rw (← c.self.view_is, ← c.served.ensures.served) c.pick_after.ensures.some

pub returns-clause-something : goal.returns-clause-something
returns-clause-something g c =
    let m = c.self.inside in
    let alike = orders_alike (option_copied c.args.pointers) m.limits c.served.result.now m.versions.served m.book.live c.served.ensures.served c.served.ensures.sound in
    rw (← c.self.view_is, ← c.served.ensures.served) (given_so c.pick_after.result (λ want first. alike.some.0 (want, first)) c.pick_after.ensures.some)

pub returns-clause-orderly : goal.returns-clause-orderly
returns-clause-orderly g c = given_both c.pick_after.result (λ want level files. record { level = level; files = files }) c.pick_after.ensures.level c.pick_after.ensures.removable

pub returns-clause-legal : goal.returns-clause-legal
returns-clause-legal g c = rw (← c.self.view_is, ← c.served.ensures.served) c.pick_after.ensures.legal

pub returns-clause-none : goal.returns-clause-none
returns-clause-none g c =
    let m = c.self.inside in
    let alike = orders_alike (option_copied c.args.pointers) m.limits c.served.result.now m.versions.served m.book.live c.served.ensures.served c.served.ensures.sound in
    rw (← c.self.view_is, ← c.served.ensures.served) (none_so c.pick_after.result alike.none.0 c.pick_after.ensures.none)

pub returns-clause-too_wide : goal.returns-clause-too_wide
returns-clause-too_wide g c =
    let m = c.self.inside in
    let alike = orders_alike (option_copied c.args.pointers) m.limits c.served.result.now m.versions.served m.book.live c.served.ensures.served c.served.ensures.sound in
    rw (← c.self.view_is, ← c.served.ensures.served) (refused_so c.pick_after.result TooWide alike.too_large.0 c.pick_after.ensures.too_wide)

pub returns-clause-memory : goal.returns-clause-memory
returns-clause-memory g c =
    let m = c.self.inside in
    let alike = orders_alike (option_copied c.args.pointers) m.limits c.served.result.now m.versions.served m.book.live c.served.ensures.served c.served.ensures.sound in
    rw (← c.self.view_is, ← c.served.ensures.served) (refused_so c.pick_after.result OutOfMemory alike.some.0 c.pick_after.ensures.memory)
