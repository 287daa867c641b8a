use Rattle.std.proofs.Common.{arith, subst}
use Rattle.std.proofs.lemmas.Result.{err_from_is_err_and}
use Rattle.lsm_coord.specs.Contract.Memory.{IsFit}
use Rattle.lsm_store.proofs.CurrentAlone.{none_due}
use Rattle.lsm_store.proofs.StoreCompactions.{compact_refuses_room}
use Rattle.lsm_store.proofs.StoreFlushes.{flush_refuses_room}
use Rattle.lsm_store.proofs.store.Store.make_room.Goals as goal

pub returns-in_err-flush-clause-refused : goal.returns-in_err-flush-clause-refused
returns-in_err-flush-clause-refused g c =
    let p = err_from_is_err_and c.from_residual.result c.from_residual.ensures.1 in
    rw (p.1, p.2) (flush_refuses_room _ _ _ c.in_err-flush.ensures.refused)

pub returns-in_err-compact-clause-refused : goal.returns-in_err-compact-clause-refused
returns-in_err-compact-clause-refused g c =
    let p = err_from_is_err_and c.from_residual-in_err-compact.result c.from_residual-in_err-compact.ensures.1 in
    rw (p.1, p.2)
    (compact_refuses_room _ _ _ _ (λ writes snapshots held. (c.in_ok-flush.ensures.ok writes snapshots held).0) c.flush.ensures.failures c.in_err-compact.ensures.refused)

pub returns-in_err-compact-clause-failures : goal.returns-in_err-compact-clause-failures
returns-in_err-compact-clause-failures g c =
    let flushed = c.flush.ensures.failures in
    let compacted = c.in_err-compact.ensures.recent.counted in
    omega (arith, flushed, compacted)

pub returns-clause-compacted : goal.returns-clause-compacted
returns-clause-compacted g c = λ behind.
    none_due c.args.self.now c.flush.new.self c.compact.new.self _ (λ writes snapshots held. (c.in_ok-flush.ensures.ok writes snapshots held).0) (subst IsFit c.self.view_is c.show-listing.ensures.fit) c.in_ok-compact.ensures.ok

pub returns-clause-failures : goal.returns-clause-failures
returns-clause-failures g c =
    let flushed = c.flush.ensures.failures in
    let compacted = c.in_ok-compact.ensures.recent.counted in
    omega (arith, flushed, compacted)
