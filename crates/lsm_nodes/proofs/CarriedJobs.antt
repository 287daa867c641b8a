-- A round has its job carried, and what it records else gives no job.
use Rattle.std.proofs.Common.{◌≡◌, ℕ, List, [], ◌∷◌, ◌++◌, Option, None, Some, Ok, Err, refl, sym, ap, subst, ◌∙◌, inl, inr, append-nil, append_assoc}
use Rattle.lsm_claim.specs.declared.ending.Settled.{Settled}
use Rattle.lsm_claim.specs.declared.ending.Settled.TheVariants.{Live, Stale}
use Rattle.lsm_claim.specs.declared.job.LiveJob.{LiveJob}
use Rattle.lsm_msg.specs.declared.job.JobParts.{JobParts}
use Rattle.lsm_coord.specs.declared.answer.Answer.{Answer}
use Rattle.lsm_coord.specs.declared.call.Call.{Call}
use Rattle.lsm_coord.specs.declared.call.Call.TheVariants as call
use Rattle.lsm_coord.specs.declared.error.CoordError.TheVariants.{OutOfMemory}
use Rattle.lsm_nodes.specs.declared.shared.tally.Record.{Record}
use Rattle.lsm_nodes.specs.Answers.{picked_answer}
use Rattle.lsm_nodes.specs.Carrying.{CarriesPicks, GainsKnown, job_given, picked_jobs}
use Rattle.lsm_nodes.specs.Tallies.{MayRecord, TallyValue, after_record, exchange_of, record_at, with_return}

-- records were added, which gave these jobs
pub record Picks (t u : TallyValue) (jobs : List JobParts) : Type 0 where
  pub more : List Record
  pub mine : u.mine ≡ t.mine ++ more
  pub jobs_are : picked_jobs more ≡ jobs

picked_then : (rs qs : List Record) → picked_jobs (rs ++ qs) ≡ picked_jobs rs ++ picked_jobs qs
picked_then [] qs = refl
picked_then (r ∷ rs) qs = ap (λ (js : List JobParts). job_given r.exchange.answer ++ js) (picked_then rs qs) ∙ sym (append_assoc (job_given r.exchange.answer) (picked_jobs rs) (picked_jobs qs))

pub picks_then : (t u v : TallyValue) (js ks : List JobParts) → Picks t u js → Picks u v ks → Picks t v (js ++ ks)
picks_then t u v js ks a b = record {
  more = a.more ++ b.more;
  mine = b.mine ∙ ap (λ (rs : List Record). rs ++ b.more) a.mine ∙ append_assoc t.mine a.more b.more;
  jobs_are = picked_then a.more b.more ∙ ap (λ (js : List JobParts). js ++ picked_jobs b.more) a.jobs_are ∙ ap (λ (ks : List JobParts). js ++ ks) b.jobs_are;
}

picks_record : (t u : TallyValue) (position : ℕ) (asked : Call) (answered : Answer) (jobs : List JobParts) → job_given answered ≡ jobs → u ≡ after_record t (record_at position (exchange_of asked answered)) → Picks t u jobs
picks_record t u position asked answered jobs gives is = record {
  more = record_at position (exchange_of asked answered) ∷ [];
  mine = ap (λ (x : TallyValue). x.mine) is;
  jobs_are = append-nil (job_given answered) ∙ gives;
}

pub picks_same : (t u : TallyValue) → u.mine ≡ t.mine → Picks t u []
picks_same t u is = record { more = []; mine = is ∙ sym (append-nil t.mine); jobs_are = refl }

-- a call that gives no job
pub picks_nothing : (t u : TallyValue) (asked : Call) (answered : Answer) (missed : Type 0) → job_given answered ≡ [] → MayRecord missed t u (exchange_of asked answered) → Picks t u []
picks_nothing t u asked answered missed gives (inl m) = picks_same t u (ap (λ (x : TallyValue). x.mine) m.1)
picks_nothing t u asked answered missed gives (inr r) = picks_record t u r.0 asked answered [] gives r.1

-- a pick that gives a job
pub picks_job : (t u : TallyValue) (given : Option (LiveJob × JobParts)) (picked : LiveJob × JobParts) → given ≡ Some picked → MayRecord (Ok given ≡ Err OutOfMemory) t u (exchange_of call.Pick (picked_answer given)) → Picks t u (picked.1 ∷ [])
picks_job t u given picked is (inl m) = absurd (cc (m.0))
picks_job t u given picked is (inr r) = picks_record t u r.0 call.Pick (picked_answer given) (picked.1 ∷ []) (ap (λ (x : Option (LiveJob × JobParts)). job_given (picked_answer x)) is) r.1

pub picks_return : (t u : TallyValue) (settled : Settled) → u ≡ with_return t settled → Picks t u []
picks_return t u Live is = picks_same t u (ap (λ (x : TallyValue). x.mine) is)
picks_return t u Stale is = picks_same t u (ap (λ (x : TallyValue). x.mine) is)

pub gains_none : {A : Type 0} (was : Option (List A)) → GainsKnown was was []
gains_none None = tt
gains_none (Some xs) = sym (append-nil xs)

pub carries : (was has : Option (List JobParts)) (t u : TallyValue) (jobs : List JobParts) → Picks t u jobs → GainsKnown was has jobs → CarriesPicks was has t u
carries was has t u jobs a gains = record { more = a.more; mine = a.mine; carried = subst (GainsKnown was has) (sym a.jobs_are) gains }

-- a job was picked and carried, and what came of it was asked and counted
pub carries_job : (was has : Option (List JobParts)) (t u v w : TallyValue) (job : JobParts) → Picks t u (job ∷ []) → Picks u v [] → Picks v w [] → GainsKnown was has (job ∷ []) → CarriesPicks was has t w
carries_job was has t u v w job a b c gains = carries was has t w (job ∷ []) (picks_then t v w (job ∷ []) [] (picks_then t u v (job ∷ []) [] a b) c) gains
