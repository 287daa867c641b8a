-- The frozen memtable is flushed first, if there is one, and then the active one.
use Rattle.std.proofs.Common.{◌∙◌, arith}
use Rattle.std.proofs.lemmas.Result.{err_from_is_err_and}
use Rattle.lsm_store.proofs.StoreFlushes.{empty_stores, flush_refuses}
use Rattle.lsm_store.proofs.StoreSteps.{keeps_then}
use Rattle.lsm_store.proofs.store.Store.flush.Goals as goal

pub returns-in_err-flush_next-clause-refused : goal.returns-in_err-flush_next-clause-refused
returns-in_err-flush_next-clause-refused g c =
    let p = err_from_is_err_and c.from_residual.result c.from_residual.ensures.1 in
    let e = c.in_err-flush_next.ensures in
    rw (p.1, p.2) (flush_refuses _ _ _ c.in_err-flush_next.field-0.0 (λ writes snapshots held. held) (omega arith) e.refused.0 e.refused.1)

pub returns-in_err-flush_next-2-clause-err : goal.returns-in_err-flush_next-2-clause-err
returns-in_err-flush_next-2-clause-err g c =
    let p = err_from_is_err_and c.from_residual-in_err-flush_next-2.result c.from_residual-in_err-flush_next-2.ensures.1 in
    rw p.1 (keeps_then _ _ _ c.in_ok-flush_next.ensures.keeps c.in_err-flush_next-2.ensures.keeps)

pub returns-in_err-flush_next-2-clause-refused : goal.returns-in_err-flush_next-2-clause-refused
returns-in_err-flush_next-2-clause-refused g c =
    let p = err_from_is_err_and c.from_residual-in_err-flush_next-2.result c.from_residual-in_err-flush_next-2.ensures.1 in
    let e = c.in_err-flush_next-2.ensures in
    rw (p.1, p.2) (flush_refuses _ _ _ c.in_err-flush_next-2.field-0.0 c.in_ok-flush_next.ensures.keeps c.in_ok-flush_next.ensures.failures e.refused.0 e.refused.1)

pub returns-in_err-flush_next-2-clause-failures : goal.returns-in_err-flush_next-2-clause-failures
returns-in_err-flush_next-2-clause-failures g c =
    let first = c.in_ok-flush_next.ensures.failures in
    let second = c.in_err-flush_next-2.ensures.failures in
    omega (arith, first, second)

pub returns-clause-ok : goal.returns-clause-ok
returns-clause-ok g c =
    let first = c.in_ok-flush_next.ensures in
    let second = c.in_ok-flush_next-2.ensures in
    empty_stores _ _ second.ok.frozen (second.ok.active first.ok.frozen) (keeps_then _ _ _ first.keeps second.keeps)

pub returns-clause-empty : goal.returns-clause-empty
returns-clause-empty g c =
    let first = c.in_ok-flush_next.ensures.ok in
    let second = c.in_ok-flush_next-2.ensures.ok in
    record { active = second.active first.frozen; last = second.last ∙ first.last }

pub returns-clause-failures : goal.returns-clause-failures
returns-clause-failures g c =
    let first = c.in_ok-flush_next.ensures.failures in
    let second = c.in_ok-flush_next-2.ensures.failures in
    omega (arith, first, second)
