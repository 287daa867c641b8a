use Rattle.std.proofs.lemmas.Result.{err_from_is_err_and}
use Rattle.lsm_store.proofs.CurrentAlone.{written_due}
use Rattle.lsm_store.proofs.StoreSteps.{refused_write_keeps}
use Rattle.lsm_store.proofs.store.Store.accept.Goals as goal

pub returns-in_err-write-clause-err : goal.returns-in_err-write-clause-err
returns-in_err-write-clause-err g c =
    let p = err_from_is_err_and c.from_residual.result c.from_residual.ensures.1 in
    rw (p.1, ← c.self.view_is) (refused_write_keeps _ _ c.args.batch.now _ c.in_err-write.ensures.step)

pub returns-in_err-write-clause-refused : goal.returns-in_err-write-clause-refused
returns-in_err-write-clause-refused g c =
    let p = err_from_is_err_and c.from_residual.result c.from_residual.ensures.1 in
    rw (p.1, p.2, ← c.self.view_is) c.in_err-write.ensures.refused

pub returns-clause-due : goal.returns-clause-due
returns-clause-due g c = rw (← c.self.view_is) (written_due _ _ _ c.in_ok-write.ensures.ok.1)
