use Rattle.lsm_store.proofs.StoreSteps.{snapshot_adds}
use Rattle.lsm_store.proofs.store.Store.snapshot.Goals as goal

pub returns-clause-ok : goal.returns-clause-ok
returns-clause-ok g c = rw (← c.self.view_is) (c.in_ok-id.ensures.ok.0, snapshot_adds _ _ _ _ c.in_ok-id.ensures.step)
