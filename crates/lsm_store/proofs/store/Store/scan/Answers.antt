use Rattle.lsm_store.proofs.StoreSteps.{scan_reads}
use Rattle.lsm_store.proofs.store.Store.scan.Goals as goal

pub returns-clause-ok : goal.returns-clause-ok
returns-clause-ok g c = rw (← c.self.view_is) (scan_reads _ _ _ _ _ _ _ c.in_ok-pairs.ensures.step)
