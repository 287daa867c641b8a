use Rattle.std.proofs.Common.{◌≡◌, Bool, true, false, Some, sym, ap, subst, ◌∙◌, rules}
use Rattle.std.proofs.lemmas.Result.{err_from_is_err_and}
use Rattle.lsm_dispatch.specs.declared.crew.WorkerState.TheVariants.{Gone, Idle}
use Rattle.lsm_dispatch.specs.Crews.{IsBusyWith, busy_job, state_of}
use Rattle.lsm_dispatch.specs.Dispatching.{TakesClaim}
use Rattle.lsm_dispatch.proofs.TakenResults.{crew_refuses, dismissed, idle_left, taken_by, taken_held}
use Rattle.lsm_dispatch.proofs.crew.Crew.on_result.Goals as goal

pub returns-in_err-take_result-clause-held : goal.returns-in_err-take_result-clause-held
returns-in_err-take_result-clause-held g c =
    let had : busy_job (state_of c.args.self.now c.args.index) ≡ Some c.in-Some.claim = ap busy_job (sym c.replace.ensures.before) ∙ sym c.into_claim.ensures ∙ c.in-Some.is in
    taken_held c.args.coord.now c.take_result.new.coord c.args.self.now c.replace.new.self c.args.index c.in-Some.claim c.args.made.now had Idle c.in_err-take_result.ensures.ended c.replace.ensures.after

pub returns-in_err-take_result-clause-refused : goal.returns-in_err-take_result-clause-refused
returns-in_err-take_result-clause-refused g c =
    let had : busy_job (state_of c.args.self.now c.args.index) ≡ Some c.in-Some.claim = ap busy_job (sym c.replace.ensures.before) ∙ sym c.into_claim.ensures ∙ c.in-Some.is in
    let has : IsBusyWith (state_of c.args.self.now c.args.index) c.args.made.now.job = search rules in
    let p = err_from_is_err_and c.from_residual.result c.from_residual.ensures.1 in
    rw (p.1, p.2) (crew_refuses c.args.coord.now c.take_result.new.coord c.args.self.now c.replace.new.self c.args.index c.in-Some.claim c.args.made.now c.in_err-take_result.field-0.0 had has c.in_err-take_result.ensures.refused c.replace.ensures.after)

-- the worker does not stay
pub returns-then-not-branch-clause-taken : goal.returns-then-not-branch-clause-taken
returns-then-not-branch-clause-taken g c = λ has.
    let had : busy_job (state_of c.args.self.now c.args.index) ≡ Some c.in-Some.claim = ap busy_job (sym c.replace.ensures.before) ∙ sym c.into_claim.ensures ∙ c.in-Some.is in
    let leaves : c.in_ok-take_result.field-0 ≡ false = search rules in
    let takes : TakesClaim c.args.coord.now c.in-Some.claim c.args.made.now false c.take_result.new.coord = subst (λ (stays : Bool). TakesClaim c.args.coord.now c.in-Some.claim c.args.made.now stays c.take_result.new.coord) leaves c.in_ok-take_result.ensures.ok in
    let same : c.leave.new.coord ≡ c.take_result.new.coord = idle_left c.take_result.new.coord c.leave.new.coord (state_of c.replace.new.self c.args.index) c.replace.ensures.held c.leave.ensures.returned in
    let now = dismissed c.args.self.now c.replace.new.self c.leave.new.self c.args.index Idle Gone c.replace.ensures.after c.leave.ensures.gone in
    taken_by c.args.coord.now c.leave.new.coord c.args.self.now c.leave.new.self c.args.index c.in-Some.claim c.args.made.now had false (subst (TakesClaim c.args.coord.now c.in-Some.claim c.args.made.now false) (sym same) takes) now

pub returns-then-not-branch-clause-held : goal.returns-then-not-branch-clause-held
returns-then-not-branch-clause-held g c = λ held.
    let had : busy_job (state_of c.args.self.now c.args.index) ≡ Some c.in-Some.claim = ap busy_job (sym c.replace.ensures.before) ∙ sym c.into_claim.ensures ∙ c.in-Some.is in
    c.leave.ensures.held (taken_held c.args.coord.now c.take_result.new.coord c.args.self.now c.replace.new.self c.args.index c.in-Some.claim c.args.made.now had Idle c.in_ok-take_result.ensures.ended c.replace.ensures.after held)

-- it stays
pub returns-else-not-branch-clause-taken : goal.returns-else-not-branch-clause-taken
returns-else-not-branch-clause-taken g c = λ has.
    let had : busy_job (state_of c.args.self.now c.args.index) ≡ Some c.in-Some.claim = ap busy_job (sym c.replace.ensures.before) ∙ sym c.into_claim.ensures ∙ c.in-Some.is in
    let stays : c.in_ok-take_result.field-0 ≡ true = search rules in
    let takes : TakesClaim c.args.coord.now c.in-Some.claim c.args.made.now true c.take_result.new.coord = subst (λ (stays : Bool). TakesClaim c.args.coord.now c.in-Some.claim c.args.made.now stays c.take_result.new.coord) stays c.in_ok-take_result.ensures.ok in
    taken_by c.args.coord.now c.take_result.new.coord c.args.self.now c.replace.new.self c.args.index c.in-Some.claim c.args.made.now had true takes c.replace.ensures.after

pub returns-else-not-branch-clause-held : goal.returns-else-not-branch-clause-held
returns-else-not-branch-clause-held g c =
    let had : busy_job (state_of c.args.self.now c.args.index) ≡ Some c.in-Some.claim = ap busy_job (sym c.replace.ensures.before) ∙ sym c.into_claim.ensures ∙ c.in-Some.is in
    taken_held c.args.coord.now c.take_result.new.coord c.args.self.now c.replace.new.self c.args.index c.in-Some.claim c.args.made.now had Idle c.in_ok-take_result.ensures.ended c.replace.ensures.after
