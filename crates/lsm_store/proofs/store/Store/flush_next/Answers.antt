use Rattle.std.proofs.Common.{rules, ◌≡◌}
use Rattle.lsm_coord.specs.declared.error.CoordError.TheVariants.{NothingToFlush}
use Rattle.lsm_store.proofs.StoreFlushes.{flushed_next, nothing_flushed}
use Rattle.lsm_store.proofs.StoreSteps.{flush_keeps, refused_flush_keeps}
use Rattle.lsm_store.proofs.store.Store.flush_next.Goals as goal

pub returns-in_default-clause-ok : goal.returns-in_default-clause-ok
returns-in_default-clause-ok g c = rw (← c.self.view_is) (flushed_next _ _ c.in_default.ensures.ok.1)

pub returns-in_default-clause-keeps : goal.returns-in_default-clause-keeps
returns-in_default-clause-keeps g c = rw (← c.self.view_is) (flush_keeps _ _ _ _ _ c.in_default.ensures.step)

pub returns-then-eq-clause-ok : goal.returns-then-eq-clause-ok
returns-then-eq-clause-ok g c =
    let is : c.in-Err.why ≡ NothingToFlush = search rules in
    rw (← c.self.view_is) (nothing_flushed _ _ _ is c.in-Err.ensures.refused)

pub returns-then-eq-clause-keeps : goal.returns-then-eq-clause-keeps
returns-then-eq-clause-keeps g c = rw (← c.self.view_is) (refused_flush_keeps _ _ _ c.in-Err.ensures.step)

pub returns-clause-keeps : goal.returns-clause-keeps
returns-clause-keeps g c = rw (← c.self.view_is) (refused_flush_keeps _ _ _ c.in-Err.ensures.step)
