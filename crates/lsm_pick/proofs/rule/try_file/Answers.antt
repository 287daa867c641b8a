use Rattle.std.proofs.Common.{◌∙◌, ◌∷◌, [], true, false, List, sym, subst, arith}
use Rattle.lsm_pick.specs.Closure.{Candidate}
use Rattle.lsm_pick.specs.Reach.{candidate_of}
use Rattle.lsm_pick.specs.Rule.{file_candidates}
use Rattle.lsm_pick.specs.Outcome.{HasOutcome, CanPick, or_later}
use Rattle.lsm_pick.proofs.Outcomes.{outcome_or, outcome_picked, told, can_pick_later, can_pick_more}
use Rattle.lsm_pick.proofs.FileCandidates.{candidates_deep, candidates_zero, wide_first}
use Rattle.lsm_pick.proofs.rule.try_file.Goals as goal
use Rattle.lsm_pick.proofs.rule.try_file.Goals.{then-first-gt0-via-then-first-gt0, then-first-gt0-via-else-first-gt0+then-is_picked}

pub returns-in_err-wide-clause-err : goal.returns-in_err-wide-clause-err
returns-in_err-wide-clause-err c =
    let first = c.args.first.now in
    let more = wide_first first in
    told c.from_residual.result (subst (CanPick c.args.served.now.version.files c.args.live.now) (sym more.1) (can_pick_more c.args.served.now.version.files c.args.live.now (candidate_of first false ∷ []) more.0 c.in_err-wide.ensures.err))

pub returns-then-first-gt0-clause-ok : goal.returns-then-first-gt0-clause-ok
returns-then-first-gt0-clause-ok c =
    let first = c.args.first.now in
    let files = c.args.served.now.version.files in
    let live = c.args.live.now in
    elim c.then-first-gt0.branch [
      | then-first-gt0-via-then-first-gt0 w ↦
          subst (λ (ts : List Candidate). HasOutcome files live ts c.in_ok-wide.wide) (sym (candidates_deep first (λ e. absurd (omega (arith, e, w.if-first-gt0.true))))) c.in_ok-wide.ensures.ok
      | then-first-gt0-via-else-first-gt0+then-is_picked w ↦
          let more = wide_first first in
          subst (λ (ts : List Candidate). HasOutcome files live ts c.in_ok-wide.wide) (sym more.1) (outcome_picked files live (candidate_of first false ∷ []) more.0 c.in_ok-wide.wide (sym w.is_picked.ensures ∙ w.if-is_picked.true) c.in_ok-wide.ensures.ok)
    ]

pub returns-in_err-older_only-clause-err : goal.returns-in_err-older_only-clause-err
returns-in_err-older_only-clause-err c =
    let first = c.args.first.now in
    let files = c.args.served.now.version.files in
    let live = c.args.live.now in
    told c.from_residual-in_err-older_only.result (subst (CanPick files live) (sym (candidates_zero first (omega (arith, c.if-first-gt0.false))))
    (can_pick_later files live (candidate_of first false ∷ []) (candidate_of first true ∷ []) c.in_ok-wide.wide c.in_ok-wide.ensures.ok c.in_err-older_only.ensures.err))

pub returns-clause-ok : goal.returns-clause-ok
returns-clause-ok c =
    let first = c.args.first.now in
    let files = c.args.served.now.version.files in
    let live = c.args.live.now in
    subst (HasOutcome files live (file_candidates first)) (sym c.or.ensures)
    (subst (λ (ts : List Candidate). HasOutcome files live ts (or_later c.in_ok-wide.wide c.in_ok-older_only.older_only)) (sym (candidates_zero first (omega (arith, c.if-first-gt0.false))))
    (outcome_or files live (candidate_of first false ∷ []) (candidate_of first true ∷ []) c.in_ok-wide.wide c.in_ok-older_only.older_only c.in_ok-wide.ensures.ok c.in_ok-older_only.ensures.ok))
