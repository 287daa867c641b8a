use Rattle.std.proofs.Common.{Err}
use Rattle.lsm_versions.proofs.PutTables.{never_falls}
use Rattle.lsm_store.proofs.store.Store.sync_log.Goals as goal

pub returns-in_err-sync_log-clause-counted : goal.returns-in_err-sync_log-clause-counted
returns-in_err-sync_log-clause-counted g c = rw (← c.self.view_is) (never_falls {T = Unit {0}} (Err c.in_err-sync_log.field-0.0) _ _ c.in_err-sync_log.ensures.counted)

pub returns-clause-counted : goal.returns-clause-counted
returns-clause-counted g c = rw (← c.self.view_is) c.in_ok-sync_log.ensures.counted
