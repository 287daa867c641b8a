-- The job that was picked is settled, whatever becomes of it.
use Rattle.std.proofs.Common.{◌≡◌, ◌+◌, [], Option, Result, None, Some, Ok, Err, subst, refl, arith}
use Rattle.lsm_claim.specs.declared.ending.Settled.TheVariants.{Stale}
use Rattle.lsm_claim.specs.declared.job.LiveJob.{LiveJob}
use Rattle.lsm_msg.specs.declared.job.JobParts.{JobParts}
use Rattle.lsm_coord.specs.declared.answer.Answer.TheVariants as answer
use Rattle.lsm_coord.specs.declared.call.Call.TheVariants as call
use Rattle.lsm_coord.specs.declared.coord.install.Install.TheVariants as became
use Rattle.lsm_coord.specs.declared.coord.install.InstallError.TheVariants as kept
use Rattle.lsm_coord.specs.declared.error.CoordError.{CoordError}
use Rattle.lsm_coord.specs.declared.error.CoordError.TheVariants.{OutOfMemory}
use Rattle.lsm_coord.specs.Contract.Replies.{error_of}
use Rattle.lsm_nodes.specs.Answers.{pick_answer, picked_answer}
use Rattle.lsm_nodes.specs.Tallies.{MayRecord, TallyValue, exchange_of}
use Rattle.lsm_nodes.proofs.SettledRounds.{Adds, adds_then, finds_one, installs_one, picks_none, picks_one, returns_one, settles, settles_none, stale_by}
use Rattle.lsm_nodes.proofs.EndedRounds.{Counts, counts_install, counts_none, counts_return, ends_idle, ends_installed, ends_refused, ends_settled}
use Rattle.lsm_nodes.proofs.CarriedJobs.{carries, carries_job, gains_none, picks_job, picks_nothing, picks_return, picks_same}
use Rattle.lsm_nodes.proofs.rounds.round.Goals as goal

-- a pick that gave a job, by what the pick ensures
first : (t u : TallyValue) (given : Option (LiveJob × JobParts)) (picked : LiveJob × JobParts) → given ≡ Some picked → MayRecord (Ok given ≡ Err OutOfMemory) t u (exchange_of call.Pick (picked_answer given)) → Adds t u 1 0 0 0
first t u given picked is h =
    let never : Ok (Some picked) ≡ Err OutOfMemory → ⊥ = λ e. cc in
    picks_one t u picked _ never (subst (λ (x : Option (LiveJob × JobParts)). MayRecord (Ok x ≡ Err OutOfMemory) t u (exchange_of call.Pick (picked_answer x))) is h)

pub returns-in-Done-clause-settled : goal.returns-in-Done-clause-settled
returns-in-Done-clause-settled g c =
    let t = c.args.tally.now in
    let u = c.pick.new.tally in
    let v = c.install.new.tally in
    let never : became.Done c.in-Done._number c.in-Done._files ≡ became.Kept c.in-Ok-Some.claim kept.OutOfMemory → ⊥ = λ e. cc in
    settles t v 1 0 0 (omega arith) (adds_then t u v 1 0 0 1 0 0 0 0 (first t u c.in-Ok-Some.field-0 (c.in-Ok-Some.claim, c.in-Ok-Some.job) c.in-Ok-Some.field-0-is c.in-Ok-Some.ensures.recorded) (installs_one u v c.in-Ok-Some.claim.id c.in-Some.made c.in-Done._number c.in-Done._files _ never c.in-Done.ensures))

pub returns-in-Stale-clause-settled : goal.returns-in-Stale-clause-settled
returns-in-Stale-clause-settled g c =
    let t = c.args.tally.now in
    let u = c.pick.new.tally in
    let v = c.install.new.tally in
    let w = c.count-in-Stale.new.self in
    let picked = first t u c.in-Ok-Some.field-0 (c.in-Ok-Some.claim, c.in-Ok-Some.job) c.in-Ok-Some.field-0-is c.in-Ok-Some.ensures.recorded in
    let never : became.Stale c.in-Stale.field-0 c.in-Stale.field-1 ≡ became.Kept c.in-Ok-Some.claim kept.OutOfMemory → ⊥ = λ e. cc in
    let tried = finds_one u v c.in-Ok-Some.claim.id c.in-Some.made c.in-Stale.field-0 c.in-Stale.field-1 _ never c.in-Stale.ensures in
    settles t w 1 1 1 (omega arith) (adds_then t v w 1 0 0 1 1 0 0 1 (adds_then t u v 1 0 0 0 0 1 0 0 picked tried) (returns_one v w Stale c.count-in-Stale.ensures))

pub returns-clause-settled : goal.returns-clause-settled
returns-clause-settled g c =
    let t = c.args.tally.now in
    let u = c.pick.new.tally in
    let v = c.install.new.tally in
    let w = c.count-in-Kept.new.self in
    let picked = first t u c.in-Ok-Some.field-0 (c.in-Ok-Some.claim, c.in-Ok-Some.job) c.in-Ok-Some.field-0-is c.in-Ok-Some.ensures.recorded in
    let tried = picks_none u v (call.Install c.in-Ok-Some.claim.id c.in-Some.made) (answer.Refused (error_of c.in-Kept.field-1)) _ refl refl refl tt c.in-Kept.ensures in
    let back = c.give_back-in-Kept.result in
    settles t w 1 0 (0 + stale_by back) (omega arith) (adds_then t v w 1 0 0 1 0 0 0 (stale_by back) (adds_then t u v 1 0 0 0 0 0 0 0 picked tried) (returns_one v w back c.count-in-Kept.ensures))

-- nothing is picked
pub returns-in-Ok-None-clause-settled : goal.returns-in-Ok-None-clause-settled
returns-in-Ok-None-clause-settled g c =
    let t = c.args.tally.now in
    let u = c.pick.new.tally in
    let P : Option (LiveJob × JobParts) → Type 0 = λ given. MayRecord (Ok given ≡ Err OutOfMemory) t u (exchange_of call.Pick (picked_answer given)) in
    settles_none t u answer.Idle _ refl refl refl (subst P c.in-Ok-None.field-0-is c.in-Ok-None.ensures.recorded)

pub returns-in-Err-clause-settled : goal.returns-in-Err-clause-settled
returns-in-Err-clause-settled g c =
    let t = c.args.tally.now in
    let u = c.pick.new.tally in
    let P : Result (Option (LiveJob × JobParts)) CoordError → Type 0 = λ r. MayRecord (r ≡ Err OutOfMemory) t u (exchange_of call.Pick (pick_answer r)) in
    settles_none t u (answer.Refused c.in-Err.why) _ refl refl refl (subst P c.in-Err.is c.pick.ensures.recorded)

-- no result comes back
pub returns-in-None-clause-settled : goal.returns-in-None-clause-settled
returns-in-None-clause-settled g c =
    let t = c.args.tally.now in
    let u = c.pick.new.tally in
    let w = c.count.new.self in
    let back = c.give_back.result in
    let picked = first t u c.in-Ok-Some.field-0 (c.in-Ok-Some.claim, c.in-Ok-Some.job) c.in-Ok-Some.field-0-is c.in-Ok-Some.ensures.recorded in
    settles t w 1 0 (0 + stale_by back) (omega arith) (adds_then t u w 1 0 0 1 0 0 0 (stale_by back) picked (returns_one u w back c.count.ensures))

-- ---- the job that was picked was carried

pub returns-in-Done-clause-carried : goal.returns-in-Done-clause-carried
returns-in-Done-clause-carried g c =
    let t = c.args.tally.now in
    let u = c.pick.new.tally in
    let v = c.install.new.tally in
    let picked = picks_job t u c.in-Ok-Some.field-0 (c.in-Ok-Some.claim, c.in-Ok-Some.job) c.in-Ok-Some.field-0-is c.in-Ok-Some.ensures.recorded in
    let tried = picks_nothing u v (call.Install c.in-Ok-Some.claim.id c.in-Some.made) (answer.Installed c.in-Done._number c.in-Done._files) _ refl c.in-Done.ensures in
    carries_job (g.L.Link.carried c.args.link.now) (g.L.Link.carried c.carry.new.self) t u v v c.in-Ok-Some.job picked tried (picks_same v v refl) c.carry.ensures

pub returns-in-Stale-clause-carried : goal.returns-in-Stale-clause-carried
returns-in-Stale-clause-carried g c =
    let t = c.args.tally.now in
    let u = c.pick.new.tally in
    let v = c.install.new.tally in
    let w = c.count-in-Stale.new.self in
    let picked = picks_job t u c.in-Ok-Some.field-0 (c.in-Ok-Some.claim, c.in-Ok-Some.job) c.in-Ok-Some.field-0-is c.in-Ok-Some.ensures.recorded in
    let tried = picks_nothing u v (call.Install c.in-Ok-Some.claim.id c.in-Some.made) (answer.Stale c.in-Stale.field-0 c.in-Stale.field-1) _ refl c.in-Stale.ensures in
    carries_job (g.L.Link.carried c.args.link.now) (g.L.Link.carried c.carry.new.self) t u v w c.in-Ok-Some.job picked tried (picks_return v w Stale c.count-in-Stale.ensures) c.carry.ensures

pub returns-clause-carried : goal.returns-clause-carried
returns-clause-carried g c =
    let t = c.args.tally.now in
    let u = c.pick.new.tally in
    let v = c.install.new.tally in
    let w = c.count-in-Kept.new.self in
    let picked = picks_job t u c.in-Ok-Some.field-0 (c.in-Ok-Some.claim, c.in-Ok-Some.job) c.in-Ok-Some.field-0-is c.in-Ok-Some.ensures.recorded in
    let tried = picks_nothing u v (call.Install c.in-Ok-Some.claim.id c.in-Some.made) (answer.Refused (error_of c.in-Kept.field-1)) _ refl c.in-Kept.ensures in
    carries_job (g.L.Link.carried c.args.link.now) (g.L.Link.carried c.carry.new.self) t u v w c.in-Ok-Some.job picked tried (picks_return v w c.give_back-in-Kept.result c.count-in-Kept.ensures) c.carry.ensures

pub returns-in-Ok-None-clause-carried : goal.returns-in-Ok-None-clause-carried
returns-in-Ok-None-clause-carried g c =
    let t = c.args.tally.now in
    let u = c.pick.new.tally in
    let P : Option (LiveJob × JobParts) → Type 0 = λ given. MayRecord (Ok given ≡ Err OutOfMemory) t u (exchange_of call.Pick (picked_answer given)) in
    let tried = picks_nothing t u call.Pick answer.Idle _ refl (subst P c.in-Ok-None.field-0-is c.in-Ok-None.ensures.recorded) in
    carries (g.L.Link.carried c.args.link.now) (g.L.Link.carried c.args.link.now) t u [] tried (gains_none (g.L.Link.carried c.args.link.now))

pub returns-in-Err-clause-carried : goal.returns-in-Err-clause-carried
returns-in-Err-clause-carried g c =
    let t = c.args.tally.now in
    let u = c.pick.new.tally in
    let P : Result (Option (LiveJob × JobParts)) CoordError → Type 0 = λ r. MayRecord (r ≡ Err OutOfMemory) t u (exchange_of call.Pick (pick_answer r)) in
    let tried = picks_nothing t u call.Pick (answer.Refused c.in-Err.why) _ refl (subst P c.in-Err.is c.pick.ensures.recorded) in
    carries (g.L.Link.carried c.args.link.now) (g.L.Link.carried c.args.link.now) t u [] tried (gains_none (g.L.Link.carried c.args.link.now))

pub returns-in-None-clause-carried : goal.returns-in-None-clause-carried
returns-in-None-clause-carried g c =
    let t = c.args.tally.now in
    let u = c.pick.new.tally in
    let w = c.count.new.self in
    let picked = picks_job t u c.in-Ok-Some.field-0 (c.in-Ok-Some.claim, c.in-Ok-Some.job) c.in-Ok-Some.field-0-is c.in-Ok-Some.ensures.recorded in
    carries_job (g.L.Link.carried c.args.link.now) (g.L.Link.carried c.carry.new.self) t u u w c.in-Ok-Some.job picked (picks_same u u refl) (picks_return u w c.give_back.result c.count.ensures) c.carry.ensures

-- ---- how it ended

-- a pick that gave a job settles nothing
pick_counts : (t u : TallyValue) (given : Option (LiveJob × JobParts)) (picked : LiveJob × JobParts) → given ≡ Some picked → MayRecord (Ok given ≡ Err OutOfMemory) t u (exchange_of call.Pick (picked_answer given)) → Counts t u 0 0
pick_counts t u given picked is h =
    let at = λ (x : Option (LiveJob × JobParts)). MayRecord (Ok x ≡ Err OutOfMemory) t u (exchange_of call.Pick (picked_answer x)) in
    counts_none t u call.Pick (answer.Picked picked.1) _ refl (subst at is h)

pub returns-in-Done-clause-ends : goal.returns-in-Done-clause-ends
returns-in-Done-clause-ends g c =
    let t = c.args.tally.now in
    let u = c.pick.new.tally in
    let v = c.install.new.tally in
    let picked = pick_counts t u c.in-Ok-Some.field-0 (c.in-Ok-Some.claim, c.in-Ok-Some.job) c.in-Ok-Some.field-0-is c.in-Ok-Some.ensures.recorded in
    let never : became.Done c.in-Done._number c.in-Done._files ≡ became.Kept c.in-Ok-Some.claim kept.OutOfMemory → ⊥ = λ e. cc in
    ends_installed t u v picked (counts_install u v (call.Install c.in-Ok-Some.claim.id c.in-Some.made) (answer.Installed c.in-Done._number c.in-Done._files) _ never refl c.in-Done.ensures)

pub returns-in-Stale-clause-ends : goal.returns-in-Stale-clause-ends
returns-in-Stale-clause-ends g c =
    let t = c.args.tally.now in
    let u = c.pick.new.tally in
    let v = c.install.new.tally in
    let w = c.count-in-Stale.new.self in
    let picked = pick_counts t u c.in-Ok-Some.field-0 (c.in-Ok-Some.claim, c.in-Ok-Some.job) c.in-Ok-Some.field-0-is c.in-Ok-Some.ensures.recorded in
    let tried = counts_none u v (call.Install c.in-Ok-Some.claim.id c.in-Some.made) (answer.Stale c.in-Stale.field-0 c.in-Stale.field-1) _ refl c.in-Stale.ensures in
    ends_settled t u v w picked tried (counts_return v w Stale c.count-in-Stale.ensures)

pub returns-clause-ends : goal.returns-clause-ends
returns-clause-ends g c =
    let t = c.args.tally.now in
    let u = c.pick.new.tally in
    let v = c.install.new.tally in
    let w = c.count-in-Kept.new.self in
    let picked = pick_counts t u c.in-Ok-Some.field-0 (c.in-Ok-Some.claim, c.in-Ok-Some.job) c.in-Ok-Some.field-0-is c.in-Ok-Some.ensures.recorded in
    let tried = counts_none u v (call.Install c.in-Ok-Some.claim.id c.in-Some.made) (answer.Refused (error_of c.in-Kept.field-1)) _ refl c.in-Kept.ensures in
    ends_settled t u v w picked tried (counts_return v w c.give_back-in-Kept.result c.count-in-Kept.ensures)

pub returns-in-Ok-None-clause-ends : goal.returns-in-Ok-None-clause-ends
returns-in-Ok-None-clause-ends g c = ends_idle c.args.tally.now c.pick.new.tally c.in-Ok-None.field-0 c.in-Ok-None.field-0-is c.in-Ok-None.ensures.recorded

pub returns-in-Err-clause-ends : goal.returns-in-Err-clause-ends
returns-in-Err-clause-ends g c =
    let t = c.args.tally.now in
    let u = c.pick.new.tally in
    let P : Result (Option (LiveJob × JobParts)) CoordError → Type 0 = λ r. MayRecord (r ≡ Err OutOfMemory) t u (exchange_of call.Pick (pick_answer r)) in
    ends_refused t u c.in-Err.why (Err c.in-Err.why) refl (subst P c.in-Err.is c.pick.ensures.recorded)

pub returns-in-None-clause-ends : goal.returns-in-None-clause-ends
returns-in-None-clause-ends g c =
    let t = c.args.tally.now in
    let u = c.pick.new.tally in
    let w = c.count.new.self in
    let picked = pick_counts t u c.in-Ok-Some.field-0 (c.in-Ok-Some.claim, c.in-Ok-Some.job) c.in-Ok-Some.field-0-is c.in-Ok-Some.ensures.recorded in
    let same : Counts u u 0 0 = record { picked = omega arith; installed = omega arith } in
    ends_settled t u u w picked same (counts_return u w c.give_back.result c.count.ensures)
