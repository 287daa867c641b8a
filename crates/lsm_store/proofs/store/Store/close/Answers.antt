use Rattle.lsm_store.proofs.StoreSteps.{closed_holds}
use Rattle.lsm_store.proofs.store.Store.close.Goals as goal

pub returns-clause-stored : goal.returns-clause-stored
returns-clause-stored g c = rw (← c.self.view_is) (closed_holds _ c.close.ensures.stops)
