-- The manifest of a vault that shows a state replays.
use Rattle.lsm_world.specs.Inner.Stopping.{down_store}
use Rattle.lsm_world.proofs.StoreEvents.{down_fit, up_fit}
use Rattle.lsm_world.proofs.store.Store.known.Goals as goal

pub returns-in-Up : goal.returns-in-Up
returns-in-Up g c = rw c.in-Up.is (record { fit = up_fit c.in-Up.nodes c.known.ensures.fit })

pub returns-in-Down : goal.returns-in-Down
returns-in-Down g c =
    let shown = rw c.in-Down.is at c.requires in
    rw c.in-Down.is (record { fit = down_fit (down_store c.in-Down.stopped).seat c.known-in-Down.ensures.idle (shown.0, shown.1.seat) })
