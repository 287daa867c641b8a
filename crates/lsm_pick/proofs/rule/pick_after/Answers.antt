use Rattle.std.proofs.Common.{◌≡◌, List, subst}
use Rattle.std.specs.Option.{option_copied}
use Rattle.lsm_claim.specs.declared.job.LiveJob.{LiveJob}
use Rattle.lsm_pick.specs.declared.error.PickError.{PickError}
use Rattle.lsm_pick.specs.declared.error.PickError.TheVariants.{OutOfMemory}
use Rattle.lsm_pick.specs.declared.outcome.Outcome.TheVariants as outcome
use Rattle.lsm_pick.specs.After.{candidates_in}
use Rattle.lsm_pick.specs.Outcome.{HasOutcome, CanPick}
use Rattle.lsm_pick.proofs.ProposedIsLegal.{legal}
use Rattle.lsm_pick.proofs.ProposedIsRemovable.{removable}
use Rattle.lsm_pick.proofs.CandidateLevels.{picked_level}
use Rattle.lsm_pick.proofs.Outcomes.{told_each}
use Rattle.lsm_pick.proofs.SameCandidates.{in_rule}
use Rattle.lsm_pick.proofs.rule.pick_after.Goals as goal

pub returns-in_err-want-clause-memory : goal.returns-in_err-want-clause-memory
returns-in_err-want-clause-memory c =
    let ts = candidates_in (option_copied c.args.pointers) c.args.limits.now c.args.served.now in
    told_each (λ (e : PickError). e ≡ OutOfMemory → CanPick c.args.served.now.version.files c.args.book.now.live ts) c.from_residual.result
    (λ e h. subst (λ (live : List LiveJob). CanPick c.args.served.now.version.files live ts) c.live.ensures.all c.in_err-want.ensures.err)

pub returns-in-Picked-clause-legal : goal.returns-in-Picked-clause-legal
returns-in-Picked-clause-legal c =
    let files = c.args.served.now.version.files in
    let ts = candidates_in (option_copied c.args.pointers) c.args.limits.now c.args.served.now in
    let first = subst (HasOutcome files c.live.result.now ts) c.in-Picked.is c.in_ok-want.ensures.ok in
    legal files first.candidate c.in-Picked.want (first.taken).asks

pub returns-in-TooLarge-clause-too_wide : goal.returns-in-TooLarge-clause-too_wide
returns-in-TooLarge-clause-too_wide c = λ e.
    let files = c.args.served.now.version.files in
    let ts = candidates_in (option_copied c.args.pointers) c.args.limits.now c.args.served.now in
    subst (λ (live : List LiveJob). HasOutcome files live ts outcome.TooLarge) c.live.ensures.all (subst (HasOutcome files c.live.result.now ts) c.in-TooLarge.is c.in_ok-want.ensures.ok)

pub returns-in-Blocked-clause-none : goal.returns-in-Blocked-clause-none
returns-in-Blocked-clause-none c = λ e.
    let files = c.args.served.now.version.files in
    let ts = candidates_in (option_copied c.args.pointers) c.args.limits.now c.args.served.now in
    subst (λ (live : List LiveJob). HasOutcome files live ts outcome.Blocked) c.live.ensures.all (subst (HasOutcome files c.live.result.now ts) c.in-Blocked.is c.in_ok-want.ensures.ok)

pub returns-in-Picked-clause-removable : goal.returns-in-Picked-clause-removable
returns-in-Picked-clause-removable c =
    let files = c.args.served.now.version.files in
    let ts = candidates_in (option_copied c.args.pointers) c.args.limits.now c.args.served.now in
    let v = c.listing-listing.ensures.sound.1 in
    let first = subst (HasOutcome files c.live.result.now ts) c.in-Picked.is c.in_ok-want.ensures.ok in
    removable files v.rising v.files c.live.result.now first.candidate c.in-Picked.want first.taken

pub returns-in-Picked-clause-level : goal.returns-in-Picked-clause-level
returns-in-Picked-clause-level c =
    let files = c.args.served.now.version.files in
    let pointers = option_copied c.args.pointers in
    let ts = candidates_in pointers c.args.limits.now c.args.served.now in
    picked_level c.args.limits.now files c.live.result.now ts (in_rule c.args.limits.now c.args.served.now c.listing-listing.ensures.sound.0 pointers) c.in-Picked.want (subst (HasOutcome files c.live.result.now ts) c.in-Picked.is c.in_ok-want.ensures.ok)
