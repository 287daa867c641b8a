-- What a pick owes to the history that it ends.
use Rattle.std.proofs.Common.{◌≡◌, ◌⊎◌, ℕ, ◌+◌, ◌≤◌, List, [], ◌∷◌, ◌++◌, true, Option, None, Some, Result, Ok, Err, IfOk, IfErr, IfSome, OnErr, refl, sym, ap, subst, ◌∙◌, inl, inr, arith, append-nil}
use Rattle.lsm_key.proofs.Lists.{any_from, any_is}
use Rattle.lsm_key.proofs.Membership.{IsIn-append_cases, IsIn-one}
use Rattle.lsm_claim.specs.declared.ending.Ending.TheVariants.{Returned}
use Rattle.lsm_claim.specs.declared.job.JobId.{JobId}
use Rattle.lsm_claim.specs.declared.job.LiveJob.{LiveJob}
use Rattle.lsm_claim.specs.declared.job.Want.{Want}
use Rattle.lsm_claim.specs.Book.{BookValue, after_claim, holds, next_job}
use Rattle.lsm_claim.specs.Jobs.{same_job_id}
use Rattle.lsm_msg.specs.declared.job.JobParts.{JobParts}
use Rattle.lsm_coord.specs.declared.answer.Answer.{Answer}
use Rattle.lsm_coord.specs.declared.answer.Answer.TheVariants as answer
use Rattle.lsm_coord.specs.declared.call.Call.TheVariants as call
use Rattle.lsm_coord.specs.declared.error.CoordError.{CoordError}
use Rattle.lsm_coord.specs.declared.error.CoordError.TheVariants.{OutOfMemory}
use Rattle.lsm_coord.specs.Model.Changes.{IsIndex}
use Rattle.lsm_coord.specs.Model.Event.{Event, Reply}
use Rattle.lsm_coord.specs.Model.Event as say
use Rattle.lsm_coord.specs.Contract.Calls.{after_give_back}
use Rattle.lsm_coord.specs.Contract.Picking.{IsPicked, PickRefuses, Picks}
use Rattle.lsm_coord.specs.Contract.Replies.{pick_reply}
use Rattle.lsm_coord.specs.Contract.Shows.{Follows}
use Rattle.lsm_coord.specs.Contract.Sound.{IsSound, KeepsSound}
use Rattle.lsm_coord.specs.Contract.Value.{CoordValue}
use Rattle.lsm_coord.proofs.GiveBackSteps.{held_before, made_after, same_name}
use Rattle.lsm_nodes.specs.Answers.{pick_answer}
use Rattle.lsm_nodes.specs.Calls.{PicksInVain, PicksJob}
use Rattle.lsm_nodes.specs.Histories.{WitnessedValue, event_of_call, installed_by, installs_in, reply_of_answer}
use Rattle.lsm_nodes.specs.Tallies.{installs_by}
use Rattle.lsm_nodes.proofs.LongerHistories.{Extends}
use Rattle.lsm_nodes.proofs.RecordedCalls.{same_after}

-- ---- the call

-- what a pick of the coordinator is, with its answer
pub picks_of : (a b : CoordValue) (r : Result (Option (LiveJob × JobParts)) CoordError) → ((dispatcher : ℕ) → IsIndex dispatcher → Follows a (say.Pick dispatcher) (pick_reply r) b) → IfOk r (Picks a b) → OnErr r (b ≡ a) → IfErr r (PickRefuses a)
    → IfOk r (λ picked. IfSome picked (λ j. IsSound b j.1)) → KeepsSound a b → PicksJob a r b
picks_of a b (Ok x) step ok err refused job sound = record { step = step; ok = ok; refused = tt; job = job; sound = sound }
picks_of a b (Err e) step ok err refused job sound = record { step = step; ok = tt; refused = inl (refused, err); job = tt; sound = sound }

-- and a pick whose claim was given back
pub picks_in_vain :
    (a mid b : CoordValue) (claim : LiveJob) (job : JobParts) → ((dispatcher : ℕ) → IsIndex dispatcher → Follows a (say.Pick dispatcher) say.Other mid) → IsPicked a claim job mid → KeepsSound a mid
    → ((dispatcher : ℕ) → IsIndex dispatcher → Follows mid (say.GiveUp dispatcher) say.Other b) → b ≡ after_give_back mid claim.id → KeepsSound mid b → PicksJob a (Err OutOfMemory) b
picks_in_vain a mid b claim job goes picked keeps back is stays = record {
  step = λ dispatcher i s shown.
      let f = goes dispatcher i s shown in
      let k = back dispatcher i f.0 f.2 in (k.0, (tt, k.1.1.1 ∙ f.1.1.1), k.2);
  ok = tt;
  refused = inr (refl, (claim, job, mid, picked, is));
  job = tt;
  sound = λ other sound held.
      stays other (keeps other sound (held_before mid.book claim.id other.id Returned (subst (λ (c : CoordValue). holds c.book other.id ≡ true) is held))) held;
}

-- a claim has the name of its job
pub named_alike : (a b : CoordValue) (r : Result (Option (LiveJob × JobParts)) CoordError) → (r ≡ Err OutOfMemory) ⊎ PicksJob a r b → IfOk r (λ picked. IfSome picked (λ p. p.0.id ≡ p.1.id))
named_alike a b (Ok None) h = tt
named_alike a b (Ok (Some p)) (inl e) = absurd cc
named_alike a b (Ok (Some p)) (inr h) = ap (λ (j : LiveJob). j.id) h.ok.claim_is ∙ sym h.ok.job_is.id
named_alike a b (Err e) h = tt

-- ---- its exchange

pub uncounted_pick : (r : Result (Option (LiveJob × JobParts)) CoordError) → installs_by (pick_answer r) ≡ 0
uncounted_pick (Ok None) = refl
uncounted_pick (Ok (Some picked)) = refl
uncounted_pick (Err e) = refl

-- a name that was given before is live after a claim only if it was live
held_first : (b : BookValue) (want : Want) (id : JobId) → id.number ≤ b.made → holds (after_claim b want) id ≡ true → holds b id ≡ true
held_first b want id given held =
    let found = any_is (λ k. same_job_id k.id id) (b.live ++ next_job b want ∷ []) held in
    elim (IsIn-append_cases found.0 b.live (next_job b want ∷ []) found.1) [
      | inl m ↦ any_from (λ k. same_job_id k.id id) b.live found.0 m found.2
      | inr m ↦
          (let new : found.0 ≡ next_job b want = IsIn-one found.0 (next_job b want) m in
          let named : b.made + 1 ≡ id.number = sym (ap (λ (k : LiveJob). k.id.number) new) ∙ ap (λ (i : JobId). i.number) (same_name found.0.id id found.2) in
          absurd (omega (arith, named, given)))
    ]

-- it names no install
no_installs : (a b : CoordValue) (answered told : Answer) → answered ≡ told → installed_by told ≡ [] → b.stored.edits ≡ a.stored.edits → installs_in b.stored.edits ≡ installs_in a.stored.edits ++ installed_by answered
no_installs a b answered told is none edits = ap installs_in edits ∙ sym (ap (λ (l : List (ℕ × List ℕ)). installs_in a.stored.edits ++ l) (ap installed_by is ∙ none) ∙ append-nil (installs_in a.stored.edits))

-- the step, by the exchange
step_of : (a : CoordValue) (w : WitnessedValue) (b : CoordValue) (answered : Answer) → w.exchange.call ≡ call.Pick → w.exchange.answer ≡ answered → Follows a (say.Pick 1) (reply_of_answer call.Pick answered) b
    → Follows a (event_of_call w.exchange.call) (reply_of_answer w.exchange.call w.exchange.answer) b
step_of a w b answered asked told goes =
    subst (λ (r : Reply). Follows a (event_of_call w.exchange.call) r b) (λ i. reply_of_answer (sym asked i) (sym told i)) (subst (λ (e : Event). Follows a e (reply_of_answer call.Pick answered) b) (ap event_of_call (sym asked)) goes)

extends_picked : (past : List WitnessedValue) (a : CoordValue) (w : WitnessedValue) (b : CoordValue) (picked : LiveJob × JobParts) → w.exchange.call ≡ call.Pick → w.exchange.answer ≡ answer.Picked picked.1 → PicksJob a (Ok (Some picked)) b → Extends past a w b
extends_picked past a w b picked asked told h =
    let is = h.ok in
    let same : (job : JobParts) → w.exchange.answer ≡ answer.Picked job → picked.1 ≡ job = λ job e. (let q : answer.Picked picked.1 ≡ answer.Picked job = sym told ∙ e in cc) in
    let made : b.book.made ≡ a.book.made + 1 = ap (λ (c : CoordValue). c.book.made) is.new_is in
    record {
      installs = no_installs a b w.exchange.answer (answer.Picked picked.1) told refl (ap (λ (c : CoordValue). c.stored.edits) is.new_is);
      made = omega (arith, made);
      given = λ job e. (let number : job.id.number ≡ a.book.made + 1 = ap (λ (j : JobParts). j.id.number) (sym (same job e)) ∙ ap (λ (i : JobId). i.number) is.job_is.id in omega (arith, made, number));
      step = λ x sound. step_of a w b (answer.Picked picked.1) asked told (h.step 1 (omega arith, omega arith));
      sound = λ x given sound s shown job from live.
          elim from [
            | inl p ↦ h.sound job (sound job p (held_first a.book is.want job.id (given job p) (subst (λ (c : CoordValue). holds c.book job.id ≡ true) is.new_is live))) live
            | inr e ↦ subst (λ (j : JobParts). IsSound b j) (same job e) h.job
          ];
    }

extends_vain : (past : List WitnessedValue) (a : CoordValue) (w : WitnessedValue) (b : CoordValue) → w.exchange.call ≡ call.Pick → w.exchange.answer ≡ answer.Refused OutOfMemory → PicksInVain a b → PicksJob a (Err OutOfMemory) b → Extends past a w b
extends_vain past a w b asked told v h =
    let picked = v.3 in
    let book : b.book ≡ (after_give_back v.2 v.0.id).book = ap (λ (c : CoordValue). c.book) v.4 in
    let made : b.book.made ≡ a.book.made + 1 = ap (λ (k : BookValue). k.made) book ∙ made_after v.2.book v.0.id Returned ∙ ap (λ (c : CoordValue). c.book.made) picked.new_is in
    let no : (job : JobParts) → w.exchange.answer ≡ answer.Picked job → ⊥ = λ job e. (let q : answer.Refused OutOfMemory ≡ answer.Picked job = sym told ∙ e in cc) in
    record {
      installs = no_installs a b w.exchange.answer (answer.Refused OutOfMemory) told refl (ap (λ (c : CoordValue). c.stored.edits) v.4 ∙ ap (λ (c : CoordValue). c.stored.edits) picked.new_is);
      made = omega (arith, made);
      given = λ job e. absurd (no job e);
      step = λ x sound. step_of a w b (answer.Refused OutOfMemory) asked told (h.step 1 (omega arith, omega arith));
      sound = λ x given sound s shown job from live.
          elim from [
            | inl p ↦
                (let before = held_before v.2.book v.0.id job.id Returned (subst (λ (k : BookValue). holds k job.id ≡ true) book live) in
                h.sound job (sound job p (held_first a.book picked.want job.id (given job p) (subst (λ (c : CoordValue). holds c.book job.id ≡ true) picked.new_is before))) live)
            | inr e ↦ absurd (no job e)
          ];
    }

pub extends_pick : (past : List WitnessedValue) (a : CoordValue) (w : WitnessedValue) (b : CoordValue) (r : Result (Option (LiveJob × JobParts)) CoordError) → w.exchange.call ≡ call.Pick → w.exchange.answer ≡ pick_answer r → PicksJob a r b → Extends past a w b
extends_pick past a w b (Ok None) asked told h = same_after past a w b call.Pick answer.Idle asked told tt h.ok.2 (h.step 1 (omega arith, omega arith))
extends_pick past a w b (Ok (Some picked)) asked told h = extends_picked past a w b picked asked told h
extends_pick past a w b (Err e) asked told h =
    elim h.refused [
      | inl q ↦ same_after past a w b call.Pick (answer.Refused e) asked told tt q.1 (h.step 1 (omega arith, omega arith))
      | inr q ↦ extends_vain past a w b asked (told ∙ ap answer.Refused q.0) q.1 (subst (λ (why : CoordError). PicksJob a (Err why) b) q.0 h)
    ]
