use Rattle.std.proofs.Common.{◌∙◌, ◌+◌, List, sym, subst, arith, take}
use Rattle.std.specs.List.{flat_map}
use Rattle.lsm_key.specs.Sets.{IsIn}
use Rattle.lsm_key.proofs.Membership.{IsIn-at, IsIn-map}
use Rattle.lsm_edit.specs.declared.served.Placed.{Placed}
use Rattle.lsm_pick.specs.After.{part_of_level}
use Rattle.lsm_pick.specs.Closure.{Candidate}
use Rattle.lsm_pick.specs.Outcome.{HasOutcome, CanPick}
use Rattle.lsm_pick.proofs.Outcomes.{all_outcomes, next_or, next_same, next_can_pick, taken_whole, told}
use Rattle.lsm_pick.proofs.SameCandidates.{is_in_part, placed_candidates}
use Rattle.lsm_pick.proofs.rule.try_part.Goals as goal
use Rattle.lsm_pick.proofs.rule.try_part.Goals.{then-is_in_part+in_ok-here+else-is_picked, else-is_in_part}

pub try_file-requires-clause-listed : goal.try_file-requires-clause-listed
try_file-requires-clause-listed c =
    let items = c.places-placed-items.result.now in
    let p = c.placed-item.result in
    let here : IsIn p items = subst (λ (x : Placed). IsIn x items) (sym c.placed-item.is) (IsIn-at items c.loop-placed.placed-index p c.loop-placed-test.true) in
    let place : IsIn p c.args.served.now.places = subst (IsIn p) c.places-placed-items.ensures.all here in
    ((c.places-placed-items.ensures.sound.0).listed p.meta).0 (IsIn-map (λ (q : Placed). q.meta) p c.args.served.now.places place)

pub returns-in_err-here-clause-err : goal.returns-in_err-here-clause-err
returns-in_err-here-clause-err c =
    let files = c.args.served.now.version.files in
    let live = c.args.live.now in
    let here = next_can_pick files live (is_in_part c.args.level c.args.pointer.now c.args.above) placed_candidates c.places-placed-items.result.now c.loop-placed.placed-index c.placed-item.result c.loop-placed-test.true c.placed-item.is
    c.loop-placed.outcome (sym c.is_in_part.ensures ∙ c.if-is_in_part.true) c.loop-placed.invariant c.in_err-here.ensures.err in
    told c.from_residual.result (subst (λ (ps : List Placed). CanPick files live (flat_map placed_candidates (part_of_level c.args.level c.args.pointer.now c.args.above ps))) c.places-placed-items.ensures.all here)

pub returns-then-is_picked-clause-ok : goal.returns-then-is_picked-clause-ok
returns-then-is_picked-clause-ok c =
    let files = c.args.served.now.version.files in
    let live = c.args.live.now in
    let test = is_in_part c.args.level c.args.pointer.now c.args.above in
    let items = c.places-placed-items.result.now in
    let i = c.loop-placed.placed-index in
    let here = next_or files live test placed_candidates items i c.placed-item.result c.loop-placed-test.true c.placed-item.is
    c.loop-placed.outcome c.in_ok-here.here (sym c.is_in_part.ensures ∙ c.if-is_in_part.true) c.loop-placed.invariant c.in_ok-here.ensures.ok in
    let all = taken_whole files live test placed_candidates items (i + 1) c.or-outcome.result (sym c.is_picked.ensures ∙ c.if-is_picked.true)
    (subst (HasOutcome files live (flat_map placed_candidates (part_of_level c.args.level c.args.pointer.now c.args.above (take (i + 1) items)))) (sym c.or-outcome.ensures) here) in
    subst (λ (ps : List Placed). HasOutcome files live (flat_map placed_candidates (part_of_level c.args.level c.args.pointer.now c.args.above ps)) c.or-outcome.result) c.places-placed-items.ensures.all all

pub loop-placed-preserved : goal.loop-placed-preserved
loop-placed-preserved c =
    let files = c.args.served.now.version.files in
    let live = c.args.live.now in
    let test = is_in_part c.args.level c.args.pointer.now c.args.above in
    let items = c.places-placed-items.result.now in
    let i = c.loop-placed.placed-index in
    let now = flat_map placed_candidates (part_of_level c.args.level c.args.pointer.now c.args.above (take (i + 1) items)) in
    elim c.if-is_in_part.branch [
      | then-is_in_part+in_ok-here+else-is_picked w ↦
          let here = next_or files live test placed_candidates items i c.placed-item.result c.loop-placed-test.true c.placed-item.is
          c.loop-placed.outcome w.in_ok-here.here (sym c.is_in_part.ensures ∙ w.if-is_in_part.true) c.loop-placed.invariant w.in_ok-here.ensures.ok in
          subst (HasOutcome files live now) (sym w.outcome-is) (subst (HasOutcome files live now) (sym w.or-outcome.ensures) here)
      | else-is_in_part w ↦
          let same = next_same files live test placed_candidates items i c.placed-item.result c.loop-placed-test.true c.placed-item.is (sym c.is_in_part.ensures ∙ w.if-is_in_part.false) in
          subst (HasOutcome files live now) (sym w.outcome-is) (subst (λ (ts : List Candidate). HasOutcome files live ts c.loop-placed.outcome) (sym same) c.loop-placed.invariant)
    ]

pub returns-clause-ok : goal.returns-clause-ok
returns-clause-ok c =
    let files = c.args.served.now.version.files in
    let live = c.args.live.now in
    let all = all_outcomes files live (is_in_part c.args.level c.args.pointer.now c.args.above) placed_candidates c.places-placed-items.result.now c.loop-placed.placed-index c.loop-placed.outcome (omega (arith, c.loop-placed-test.false)) c.loop-placed.invariant in
    subst (λ (ps : List Placed). HasOutcome files live (flat_map placed_candidates (part_of_level c.args.level c.args.pointer.now c.args.above ps)) c.loop-placed.outcome) c.places-placed-items.ensures.all all
