use Rattle.std.proofs.Common.{rules, ◌≡◌, ℕ, subst}
use Rattle.std.proofs.lemmas.Result.{err_from_is_err_and}
use Rattle.lsm_coord.specs.Contract.Calls.{with_live_tables}
use Rattle.lsm_store.proofs.CurrentAlone.{alone_after, none_left, told_number}
use Rattle.lsm_store.proofs.StoreSteps.{compaction_keeps, keeps_then, refused_trim_keeps, trim_keeps}
use Rattle.lsm_store.proofs.StoreCompactions.{next_refused, none_next}
use Rattle.lsm_store.proofs.store.Store.compact_next.Goals as goal

pub returns-in_err-number-clause-refused : goal.returns-in_err-number-clause-refused
returns-in_err-number-clause-refused g c =
    let p = err_from_is_err_and c.from_residual.result c.from_residual.ensures.1 in
    let e = c.in_err-number.ensures in
    rw (p.1, p.2, ← c.self.view_is) (next_refused _ _ _ _ c.self.invariant.live e.err e.refused e.device)

pub returns-in_default-clause-ok : goal.returns-in_default-clause-ok
returns-in_default-clause-ok g c = rw (← c.self.view_is) (none_next _ _ _ _ c.in_default.is c.in_ok-number.ensures.ok)

pub returns-in_err-trim-clause-keeps : goal.returns-in_err-trim-clause-keeps
returns-in_err-trim-clause-keeps g c =
    rw (← c.self.view_is) (keeps_then _ _ _ (compaction_keeps _ _ _ c.in_ok-number.ensures.step) (refused_trim_keeps _ _ _ _ c.in_err-trim.ensures.step))

pub returns-clause-keeps : goal.returns-clause-keeps
returns-clause-keeps g c =
    rw (← c.self.view_is) (keeps_then _ _ _ (compaction_keeps _ _ _ c.in_ok-number.ensures.step) (trim_keeps _ _ _ _ c.in_ok-trim.ensures.step))

pub returns-in_default-clause-none : goal.returns-in_default-clause-none
returns-in_default-clause-none g c = λ none. rw (← c.self.view_is) (none_left _ _ _ _ c.in_default.is c.in_ok-number.ensures.ok)

pub returns-in_err-number-clause-too_large : goal.returns-in_err-number-clause-too_large
returns-in_err-number-clause-too_large g c =
    let p = err_from_is_err_and c.from_residual.result c.from_residual.ensures.1 in
    rw (p.1, p.2, ← c.self.view_is) (λ large. c.in_err-number.ensures.err)

pub returns-clause-let_go : goal.returns-clause-let_go
returns-clause-let_go g c = λ made.
    let same : c.in-Some.number-1-own.given.0.0.0 ≡ c.in-Some.number = search rules in
    let told : c.in-Some.number-1-own.given.0.0.0 ≡ c.compact_in.new.coord.served.version.number = told_number _ _ _ _ _ _ c.in-Some.is c.in_ok-number.ensures.ok same in
    alone_after c.compact_in.new.coord c.trim.new.self c.show-listing.ensures.fit
    (subst (λ (n : ℕ). c.trim.new.self ≡ record (with_live_tables c.compact_in.new.coord n) { failures = c.trim.new.self.failures }) told c.in_ok-trim.ensures.ok.1)
