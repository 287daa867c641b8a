use Rattle.lsm_store.proofs.StoreSteps.{opened_holds, refused_holds}
use Rattle.lsm_store.proofs.store.Store.open.Goals as goal

pub returns-in-Ok-clause-stored : goal.returns-in-Ok-clause-stored
returns-in-Ok-clause-stored g c = opened_holds _ _ c.in-Ok.ensures.step

pub returns-in-Err-clause-stays : goal.returns-in-Err-clause-stays
returns-in-Err-clause-stays g c = refused_holds _ _ _ c.in-Err.ensures.stays
