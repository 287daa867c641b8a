use Rattle.std.proofs.Common.{◌≡◌, ◌-◌, List, None, Some, ap, subst, ◌∙◌, rules}
use Rattle.lsm_coord.specs.Contract.Picking.{IsPickedAfter, PicksAfter}
use Rattle.lsm_dispatch.specs.declared.crew.WorkerState.{WorkerState}
use Rattle.lsm_dispatch.specs.declared.crew.WorkerState.TheVariants.{Busy, Idle}
use Rattle.lsm_dispatch.specs.Crews.{state_of}
use Rattle.lsm_dispatch.proofs.HandedJobs.{handed_held, handed_picked}
use Rattle.lsm_dispatch.proofs.HeldClaims.{busy_there}
use Rattle.lsm_dispatch.proofs.TakenResults.{same_held}
use Rattle.lsm_dispatch.proofs.crew.Crew.hand_out.Goals as goal

pub returns-in-Ok-Some-clause-ok : goal.returns-in-Ok-Some-clause-ok
returns-in-Ok-Some-clause-ok g c =
    let idle : state_of c.args.self.now c.args.index ≡ Idle = search rules in
    let p : IsPickedAfter (Some c.pointers.result.now) c.args.coord.now c.in-Ok-Some.claim c.in-Ok-Some.job c.pick_after.new.self = subst (PicksAfter (Some c.pointers.result.now) c.args.coord.now c.pick_after.new.self) c.in-Ok-Some.field-0-is c.in-Ok-Some.ensures.ok in
    (idle, c.in-Ok-Some.claim, c.in-Ok-Some.job, c.pointers.result.now, handed_picked c.args.coord.now c.pick_after.new.self c.set_state.new.coord c.args.self.now c.follow.new.self c.args.index c.in-Ok-Some.claim c.in-Ok-Some.job idle p c.set_state.ensures.returned, c.follow.ensures ∙ c.set_state.ensures.set, c.to_worker.ensures.all)

pub returns-in-Ok-Some-clause-held : goal.returns-in-Ok-Some-clause-held
returns-in-Ok-Some-clause-held g c =
    let now : state_of c.follow.new.self c.args.index ≡ Busy c.in-Ok-Some.claim = ap (λ (w : List WorkerState). state_of w c.args.index) c.follow.ensures ∙ c.set_state.ensures.now in
    let idle : state_of c.args.self.now c.args.index ≡ Idle = search rules in
    let p : IsPickedAfter (Some c.pointers.result.now) c.args.coord.now c.in-Ok-Some.claim c.in-Ok-Some.job c.pick_after.new.self = subst (PicksAfter (Some c.pointers.result.now) c.args.coord.now c.pick_after.new.self) c.in-Ok-Some.field-0-is c.in-Ok-Some.ensures.ok in
    handed_held c.args.coord.now c.pick_after.new.self c.set_state.new.coord c.args.self.now c.follow.new.self c.args.index c.in-Ok-Some.claim c.in-Ok-Some.job idle p c.set_state.ensures.returned (c.follow.ensures ∙ c.set_state.ensures.set) now

pub returns-in-Ok-None-clause-held : goal.returns-in-Ok-None-clause-held
returns-in-Ok-None-clause-held g c =
    let p : PicksAfter (Some c.pointers.result.now) c.args.coord.now c.pick_after.new.self None = subst (PicksAfter (Some c.pointers.result.now) c.args.coord.now c.pick_after.new.self) c.in-Ok-None.field-0-is c.in-Ok-None.ensures.ok in
    same_held c.args.coord.now c.pick_after.new.self c.args.self.now p.2

pub returns-in-Err-TooWide-clause-held : goal.returns-in-Err-TooWide-clause-held
returns-in-Err-TooWide-clause-held g c = same_held c.args.coord.now c.pick_after.new.self c.args.self.now c.in-Err-TooWide.ensures.err

pub returns-in-Err-clause-held : goal.returns-in-Err-clause-held
returns-in-Err-clause-held g c = same_held c.args.coord.now c.pick_after.new.self c.args.self.now c.in-Err.ensures.err

pub returns-in-Ok-Some-clause-busy : goal.returns-in-Ok-Some-clause-busy
returns-in-Ok-Some-clause-busy g c =
    let now : state_of c.follow.new.self c.args.index ≡ Busy c.in-Ok-Some.claim = ap (λ (w : List WorkerState). state_of w c.args.index) c.follow.ensures ∙ c.set_state.ensures.now in
    busy_there c.follow.new.self (c.args.index - 1) c.in-Ok-Some.claim now
