use Rattle.std.proofs.Common.{◌∙◌, ◌+◌, ◌<◌, List, sym, ap, subst, arith, take}
use Rattle.std.specs.List.{filter, flat_map}
use Rattle.std.specs.Option.{option_copied}
use Rattle.lsm_edit.specs.declared.file.FileMeta.{FileMeta}
use Rattle.lsm_pick.specs.After.{level_candidates_in}
use Rattle.lsm_pick.specs.Closure.{Candidate}
use Rattle.lsm_pick.specs.Due.{is_due, levels}
use Rattle.lsm_pick.specs.Outcome.{HasOutcome, CanPick}
use Rattle.lsm_pick.proofs.Outcomes.{all_outcomes, level_at, next_or, next_same, next_can_pick, taken_whole, told}
use Rattle.lsm_pick.proofs.SameCandidates.{by_level}
use Rattle.lsm_pick.proofs.rule.try_all.Goals as goal
use Rattle.lsm_pick.proofs.rule.try_all.Goals.{then-is_due+in_ok-here+else-is_picked, else-is_due}

pub returns-in_err-here-clause-err : goal.returns-in_err-here-clause-err
returns-in_err-here-clause-err c =
    let files = c.args.served.now.version.files in
    let pointers = option_copied c.args.pointers in
    let at = level_candidates_in pointers c.args.served.now in
    let level = c.loop-level.level in
    let lt : level < 6 = omega (arith, c.loop-level-test.true) in
    let due = ap (λ (fs : List FileMeta). is_due c.args.limits.now fs level) (sym c.listing.ensures.files) ∙ sym c.is_due.ensures ∙ c.if-is_due.true in
    told c.from_residual.result (subst (CanPick files c.args.live.now) (sym (by_level pointers c.args.limits.now c.args.served.now))
    (next_can_pick files c.args.live.now (is_due c.args.limits.now files) at levels level level lt (sym (level_at level lt)) c.loop-level.outcome due c.loop-level.invariant c.in_err-here.ensures.err))

pub returns-then-is_picked-clause-ok : goal.returns-then-is_picked-clause-ok
returns-then-is_picked-clause-ok c =
    let files = c.args.served.now.version.files in
    let pointers = option_copied c.args.pointers in
    let at = level_candidates_in pointers c.args.served.now in
    let live = c.args.live.now in
    let test = is_due c.args.limits.now files in
    let level = c.loop-level.level in
    let lt : level < 6 = omega (arith, c.loop-level-test.true) in
    let due = ap (λ (fs : List FileMeta). is_due c.args.limits.now fs level) (sym c.listing.ensures.files) ∙ sym c.is_due.ensures ∙ c.if-is_due.true in
    let here = next_or files live test at levels level level lt (sym (level_at level lt)) c.loop-level.outcome c.in_ok-here.here due c.loop-level.invariant c.in_ok-here.ensures.ok in
    subst (λ (ts : List Candidate). HasOutcome files live ts c.or-outcome.result) (sym (by_level pointers c.args.limits.now c.args.served.now))
    (taken_whole files live test at levels (level + 1) c.or-outcome.result (sym c.is_picked.ensures ∙ c.if-is_picked.true)
    (subst (HasOutcome files live (flat_map at (filter test (take (level + 1) levels)))) (sym c.or-outcome.ensures) here))

pub loop-level-preserved : goal.loop-level-preserved
loop-level-preserved c =
    let files = c.args.served.now.version.files in
    let pointers = option_copied c.args.pointers in
    let at = level_candidates_in pointers c.args.served.now in
    let live = c.args.live.now in
    let test = is_due c.args.limits.now files in
    let level = c.loop-level.level in
    let lt : level < 6 = omega (arith, c.loop-level-test.true) in
    let is = ap (λ (fs : List FileMeta). is_due c.args.limits.now fs level) (sym c.listing.ensures.files) ∙ sym c.is_due.ensures in
    let now = flat_map at (filter test (take (level + 1) levels)) in
    elim c.if-is_due.branch [
      | then-is_due+in_ok-here+else-is_picked w ↦
          let here = next_or files live test at levels level level lt (sym (level_at level lt)) c.loop-level.outcome w.in_ok-here.here (is ∙ w.if-is_due.true) c.loop-level.invariant w.in_ok-here.ensures.ok in
          subst (HasOutcome files live now) (sym w.outcome-is) (subst (HasOutcome files live now) (sym w.or-outcome.ensures) here)
      | else-is_due w ↦
          let same = next_same files live test at levels level level lt (sym (level_at level lt)) (is ∙ w.if-is_due.false) in
          subst (HasOutcome files live now) (sym w.outcome-is) (subst (λ (ts : List Candidate). HasOutcome files live ts c.loop-level.outcome) (sym same) c.loop-level.invariant)
    ]

pub returns-clause-ok : goal.returns-clause-ok
returns-clause-ok c =
    let files = c.args.served.now.version.files in
    let pointers = option_copied c.args.pointers in
    let at = level_candidates_in pointers c.args.served.now in
    subst (λ (ts : List Candidate). HasOutcome files c.args.live.now ts c.loop-level.outcome) (sym (by_level pointers c.args.limits.now c.args.served.now))
    (all_outcomes files c.args.live.now (is_due c.args.limits.now files) at levels c.loop-level.level c.loop-level.outcome (omega (arith, c.loop-level-test.false)) c.loop-level.invariant)
