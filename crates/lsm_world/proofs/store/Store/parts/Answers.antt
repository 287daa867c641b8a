-- What the coordinator has of a history, its vault has.
use Rattle.lsm_world.proofs.RestartedNodes.{stops}
use Rattle.lsm_world.proofs.store.Store.parts.Goals as goal

pub returns-in-Up-clause-history : goal.returns-in-Up-clause-history
returns-in-Up-clause-history g c =
    let is = c.parts-coord.ensures in
    rw c.in-Up.is (is.history.0, stops is.history.0 c.in-Up.nodes is.fit is.history.1)

pub returns-in-Up-clause-fit : goal.returns-in-Up-clause-fit
returns-in-Up-clause-fit g c = rw c.in-Up.is c.parts-coord.ensures.fit
