use Rattle.std.proofs.Common.{◌∙◌, Bor, List, ℕ, Option, sym, ap, subst}
use Rattle.std.specs.List.{flat_map}
use Rattle.std.specs.Option.{option_copied}
use Rattle.std.specs.Result.{IfOk, OnErr}
use Rattle.lsm_pick.specs.After.{CompactPointersValue, level_after, level_candidates_in}
use Rattle.lsm_pick.specs.Closure.{Candidate}
use Rattle.lsm_pick.specs.Outcome.{HasOutcome, CanPick}
use Rattle.lsm_pick.proofs.SameCandidates.{in_deeper_level, in_level_zero, placed_candidates}
use Rattle.lsm_pick.proofs.rule.try_level_in.Goals as goal

pub returns-then-level-eq0-clause-ok : goal.returns-then-level-eq0-clause-ok
returns-then-level-eq0-clause-ok c =
    let files = c.args.served.now.version.files in
    subst (λ (ts : List Candidate). IfOk c.try_level.result (HasOutcome files c.args.live.now ts))
    (sym (in_level_zero (option_copied c.args.pointers) c.args.served.now c.args.level c.if-level-eq0.true)) c.try_level.ensures.ok

pub returns-then-level-eq0-clause-err : goal.returns-then-level-eq0-clause-err
returns-then-level-eq0-clause-err c =
    let files = c.args.served.now.version.files in
    subst (λ (ts : List Candidate). OnErr c.try_level.result (CanPick files c.args.live.now ts))
    (sym (in_level_zero (option_copied c.args.pointers) c.args.served.now c.args.level c.if-level-eq0.true)) c.try_level.ensures.err

pub returns-in-Some-clause-ok : goal.returns-in-Some-clause-ok
returns-in-Some-clause-ok c =
    let files = c.args.served.now.version.files in
    let whole =
    ap (λ (o : Option (Bor CompactPointersValue)). level_candidates_in (option_copied o) c.args.served.now c.args.level) c.in-Some.is
    ∙ in_deeper_level c.in-Some.pointers.now c.args.served.now c.args.level c.if-level-eq0.false
    ∙ ap (λ (k : List ℕ). flat_map placed_candidates (level_after c.args.level k c.args.served.now.places)) (sym c.at.ensures) in
    subst (λ (ts : List Candidate). IfOk c.try_level_after.result (HasOutcome files c.args.live.now ts)) (sym whole) c.try_level_after.ensures.ok

pub returns-in-Some-clause-err : goal.returns-in-Some-clause-err
returns-in-Some-clause-err c =
    let files = c.args.served.now.version.files in
    let whole =
    ap (λ (o : Option (Bor CompactPointersValue)). level_candidates_in (option_copied o) c.args.served.now c.args.level) c.in-Some.is
    ∙ in_deeper_level c.in-Some.pointers.now c.args.served.now c.args.level c.if-level-eq0.false
    ∙ ap (λ (k : List ℕ). flat_map placed_candidates (level_after c.args.level k c.args.served.now.places)) (sym c.at.ensures) in
    subst (λ (ts : List Candidate). OnErr c.try_level_after.result (CanPick files c.args.live.now ts)) (sym whole) c.try_level_after.ensures.err

pub returns-in-None-clause-ok : goal.returns-in-None-clause-ok
returns-in-None-clause-ok c =
    let whole = ap (λ (o : Option (Bor CompactPointersValue)). level_candidates_in (option_copied o) c.args.served.now c.args.level) c.in-None.is in
    subst (λ (ts : List Candidate). IfOk c.try_level-in-None.result (HasOutcome c.args.served.now.version.files c.args.live.now ts)) (sym whole) c.try_level-in-None.ensures.ok

pub returns-in-None-clause-err : goal.returns-in-None-clause-err
returns-in-None-clause-err c =
    let whole = ap (λ (o : Option (Bor CompactPointersValue)). level_candidates_in (option_copied o) c.args.served.now c.args.level) c.in-None.is in
    subst (λ (ts : List Candidate). OnErr c.try_level-in-None.result (CanPick c.args.served.now.version.files c.args.live.now ts)) (sym whole) c.try_level-in-None.ensures.err
