use Rattle.std.proofs.Common.{Bool, subst, arith}
use Rattle.lsm_store.specs.Store.{CompactsNext}
use Rattle.lsm_store.proofs.CurrentAlone.{due_lets_go, left_lets_go}
use Rattle.lsm_store.proofs.StoreSteps.{keeps_then}
use Rattle.lsm_store.proofs.StoreCompactions.{due_then, nothing_due, same_memtable, stops_then, then_memtable}
use Rattle.lsm_store.proofs.store.Store.compact.Goals as goal

pub loop-round-init : goal.loop-round-init
loop-round-init g c = (λ writes snapshots h. h, same_memtable _, omega arith, λ rose. absurd (omega (arith, rose)))

pub loop-round-preserved : goal.loop-round-preserved
loop-round-preserved g c =
    let inv = c.loop-round.invariant in
    let next = subst (λ (b : Bool). CompactsNext c.loop-round.self c.compact_next.new.self b) c.if-not-found.false c.in-Ok.ensures.ok in
    let before = inv.2 in (
      keeps_then _ _ _ inv.0 c.in-Ok.ensures.keeps,
      then_memtable _ _ _ inv.1 c.in-Ok.ensures.recent,
      omega (arith, before, next),
      λ rose. c.in-Ok.ensures.let_go c.if-not-found.false,
    )

pub returns-in-Err-clause-ok : goal.returns-in-Err-clause-ok
returns-in-Err-clause-ok g c = due_then c.args.self.now c.loop-round.self c.compact_next.new.self c.args.rounds c.due_after.result c.in-Err.why c.due_after.ensures.ok c.in-Err.ensures.refused

pub returns-in-Err-clause-let_go : goal.returns-in-Err-clause-let_go
returns-in-Err-clause-let_go g c = due_lets_go c.args.self.now c.loop-round.self c.compact_next.new.self c.due_after.result c.in-Err.why c.due_after.ensures.ok c.in-Err.ensures.too_large c.loop-round.invariant.3

pub returns-in-Err-clause-keeps : goal.returns-in-Err-clause-keeps
returns-in-Err-clause-keeps g c = keeps_then _ _ _ c.loop-round.invariant.0 c.in-Err.ensures.keeps

pub returns-in-Err-clause-recent : goal.returns-in-Err-clause-recent
returns-in-Err-clause-recent g c = then_memtable _ _ _ c.loop-round.invariant.1 c.in-Err.ensures.recent

pub returns-in-Err-clause-refused : goal.returns-in-Err-clause-refused
returns-in-Err-clause-refused g c =
    stops_then c.args.self.now c.loop-round.self c.compact_next.new.self c.due_after.result c.in-Err.why c.due_after.ensures.refused c.loop-round.invariant.0 c.loop-round.invariant.1.counted c.in-Err.ensures.refused

pub returns-then-not-found-clause-ok : goal.returns-then-not-found-clause-ok
returns-then-not-found-clause-ok g c =
    nothing_due _ _ _ c.loop-round.invariant.0 (subst (λ (b : Bool). CompactsNext c.loop-round.self c.compact_next.new.self b) c.if-not-found.true c.in-Ok.ensures.ok)

pub returns-then-not-found-clause-let_go : goal.returns-then-not-found-clause-let_go
returns-then-not-found-clause-let_go g c = left_lets_go c.args.self.now c.loop-round.self c.compact_next.new.self (c.in-Ok.ensures.none c.if-not-found.true) c.loop-round.invariant.3

pub returns-then-not-found-clause-keeps : goal.returns-then-not-found-clause-keeps
returns-then-not-found-clause-keeps g c = keeps_then _ _ _ c.loop-round.invariant.0 c.in-Ok.ensures.keeps

pub returns-then-not-found-clause-recent : goal.returns-then-not-found-clause-recent
returns-then-not-found-clause-recent g c = then_memtable _ _ _ c.loop-round.invariant.1 c.in-Ok.ensures.recent

pub returns-clause-ok : goal.returns-clause-ok
returns-clause-ok g c =
    let made = c.loop-round.invariant.2 in
    let end = c.loop-round.auto._round-end in
    let past = c.loop-round-test.false in
    omega (arith, made, end, past)

pub returns-clause-let_go : goal.returns-clause-let_go
returns-clause-let_go g c = c.loop-round.invariant.3
