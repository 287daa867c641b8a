use Rattle.std.proofs.Common.{◌∙◌, ◌++◌, true, false, List, sym, subst}
use Rattle.std.specs.List.{flat_map}
use Rattle.std.proofs.lemmas.Grind.{flat_map-append}
use Rattle.lsm_pick.specs.After.{part_of_level}
use Rattle.lsm_pick.specs.Closure.{Candidate}
use Rattle.lsm_pick.specs.Outcome.{HasOutcome, CanPick}
use Rattle.lsm_pick.proofs.Outcomes.{outcome_or, outcome_picked, told, can_pick_later, can_pick_more}
use Rattle.lsm_pick.proofs.SameCandidates.{placed_candidates}
use Rattle.lsm_pick.proofs.rule.try_level_after.Goals as goal

pub returns-in_err-above-clause-err : goal.returns-in_err-above-clause-err
returns-in_err-above-clause-err c =
    let files = c.args.served.now.version.files in
    let live = c.args.live.now in
    let one = part_of_level c.args.level c.args.pointer.now true c.args.served.now.places in
    let two = part_of_level c.args.level c.args.pointer.now false c.args.served.now.places in
    told c.from_residual.result (subst (CanPick files live) (sym (flat_map-append placed_candidates one two))
    (can_pick_more files live (flat_map placed_candidates one) (flat_map placed_candidates two) c.in_err-above.ensures.err))

pub returns-then-is_picked-clause-ok : goal.returns-then-is_picked-clause-ok
returns-then-is_picked-clause-ok c =
    let files = c.args.served.now.version.files in
    let live = c.args.live.now in
    let one = part_of_level c.args.level c.args.pointer.now true c.args.served.now.places in
    let two = part_of_level c.args.level c.args.pointer.now false c.args.served.now.places in
    subst (λ (ts : List Candidate). HasOutcome files live ts c.in_ok-above.above) (sym (flat_map-append placed_candidates one two))
    (outcome_picked files live (flat_map placed_candidates one) (flat_map placed_candidates two) c.in_ok-above.above (sym c.is_picked.ensures ∙ c.if-is_picked.true) c.in_ok-above.ensures.ok)

pub returns-in_err-others-clause-err : goal.returns-in_err-others-clause-err
returns-in_err-others-clause-err c =
    let files = c.args.served.now.version.files in
    let live = c.args.live.now in
    let one = part_of_level c.args.level c.args.pointer.now true c.args.served.now.places in
    let two = part_of_level c.args.level c.args.pointer.now false c.args.served.now.places in
    told c.from_residual-in_err-others.result (subst (CanPick files live) (sym (flat_map-append placed_candidates one two))
    (can_pick_later files live (flat_map placed_candidates one) (flat_map placed_candidates two) c.in_ok-above.above c.in_ok-above.ensures.ok c.in_err-others.ensures.err))

pub returns-clause-ok : goal.returns-clause-ok
returns-clause-ok c =
    let files = c.args.served.now.version.files in
    let live = c.args.live.now in
    let one = part_of_level c.args.level c.args.pointer.now true c.args.served.now.places in
    let two = part_of_level c.args.level c.args.pointer.now false c.args.served.now.places in
    subst (λ (ts : List Candidate). HasOutcome files live ts c.or.result) (sym (flat_map-append placed_candidates one two))
    (subst (HasOutcome files live (flat_map placed_candidates one ++ flat_map placed_candidates two)) (sym c.or.ensures)
    (outcome_or files live (flat_map placed_candidates one) (flat_map placed_candidates two) c.in_ok-above.above c.in_ok-others.others c.in_ok-above.ensures.ok c.in_ok-others.ensures.ok))
