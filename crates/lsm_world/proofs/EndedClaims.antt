-- Claims that a dispatcher gives up, or that are no longer live.
use Rattle.std.proofs.Common.{◌≡◌, ℕ, ◌≤◌, Bool, true, false, not, cond, List, Some, length, refl, sym, ap, subst, ◌∙◌}
use Rattle.std.specs.Prelude.{slice_get, slice_set}
use Rattle.std.proofs.lemmas.Bool.{true≢false}
use Rattle.lsm_key.specs.Sets.{IsIn}
use Rattle.lsm_key.proofs.AscendingEntries.{IsIn-filter}
use Rattle.lsm_key.proofs.Lists.{IsIn-kept, any_from}
use Rattle.lsm_claim.specs.declared.ending.Ending.{Ending}
use Rattle.lsm_claim.specs.declared.ending.Ending.TheVariants.{Installed, Returned}
use Rattle.lsm_claim.specs.declared.job.JobId.{JobId}
use Rattle.lsm_claim.specs.declared.job.LiveJob.{LiveJob}
use Rattle.lsm_claim.specs.Book.{BookValue, after_settling, holds, with_ending}
use Rattle.lsm_claim.specs.Jobs.{same_job_id, without_job}
use Rattle.lsm_msg.specs.declared.job.JobParts.{JobParts}
use Rattle.lsm_coord.specs.declared.dispatcher.Dispatcher.TheVariants.{Idle, Busy}
use Rattle.lsm_coord.specs.Contract.Calls.{after_give_back}
use Rattle.lsm_coord.specs.Contract.Sound.{KeepsSound}
use Rattle.lsm_coord.specs.Contract.Value.{CoordValue}
use Rattle.lsm_coord.proofs.GiveBackSteps.{epoch_after, live_before, made_after, same_name, same_self}
use Rattle.lsm_store.proofs.Compactions.{fewer_held}
use Rattle.lsm_world.specs.History.{History, IsHistory, of_epoch}
use Rattle.lsm_world.specs.Nodes.{NodesValue}
use Rattle.lsm_world.proofs.DeskPlaces.{LetsGo, claims_let_go}
use Rattle.lsm_world.proofs.QuietCalls.{files_stay}

-- ---- the book after a claim ended

-- a live claim is held by its name
pub live_held : (b : BookValue) (j : LiveJob) (id : JobId) → IsIn j b.live → j.id ≡ id → holds b id ≡ true
live_held b j id m same = any_from (λ (k : LiveJob). same_job_id k.id id) b.live j m (same_self j.id id same)

-- the epoch and the count of its jobs stay
pub begun_after : (b : BookValue) (id : JobId) (ending : Ending) (epoch : ℕ) → epoch ≤ b.epoch → epoch ≤ (after_settling b id ending).epoch
begun_after b id ending epoch begun = subst (λ (n : ℕ). epoch ≤ n) (sym (epoch_after b id ending)) begun

pub counted_after : (jobs : List JobParts) (b : BookValue) (id : JobId) (ending : Ending) → b.made ≡ length (of_epoch b.epoch jobs) → (after_settling b id ending).made ≡ length (of_epoch (after_settling b id ending).epoch jobs)
counted_after jobs b id ending made = made_after b id ending ∙ made ∙ ap (λ (epoch : ℕ). length (of_epoch epoch jobs)) (sym (epoch_after b id ending))

live_with : (ending : Ending) (b : BookValue) → (with_ending ending b).live ≡ b.live
live_with Installed b = refl
live_with Returned b = refl

-- the claim is not live afterwards
ended : (b : BookValue) (id : JobId) (ending : Ending) (j : LiveJob) → IsIn j (after_settling b id ending).live → j.id ≡ id → ⊥
ended b id ending j m same = by (holds b id) refl m
  where
    by : (t : Bool) → holds b id ≡ t → IsIn j (cond t (with_ending ending (record b { live = without_job id b.live })) b).live → ⊥
    by true held m =
        let kept = IsIn-filter (λ (k : LiveJob). not (same_job_id k.id id)) j b.live (subst (λ (js : List LiveJob). IsIn j js) (live_with ending (record b { live = without_job id b.live })) m) in
        true≢false (sym kept.1 ∙ ap not (same_self j.id id same))
    by false held m = true≢false (sym (live_held b j id m same) ∙ held)

-- a claim of another name is still live
other_kept : (b : BookValue) (id : JobId) (ending : Ending) (j : LiveJob) → IsIn j b.live → (j.id ≡ id → ⊥) → IsIn j (after_settling b id ending).live
other_kept b id ending j m other = by (holds b id)
  where
    is_other : (t : Bool) → same_job_id j.id id ≡ t → not t ≡ true
    is_other true same = absurd (other (same_name j.id id same))
    is_other false same = refl

    by : (t : Bool) → IsIn j (cond t (with_ending ending (record b { live = without_job id b.live })) b).live
    by true =
        let kept = IsIn-kept (λ (k : LiveJob). not (same_job_id k.id id)) j b.live m (is_other (same_job_id j.id id) refl) in
        subst (λ (js : List LiveJob). IsIn j js) (sym (live_with ending (record b { live = without_job id b.live }))) kept
    by false = m

-- a claim that ends is let go
pub ends : (b : BookValue) (id : JobId) (ending : Ending) → LetsGo b (after_settling b id ending) id
ends b id ending = record { epoch = epoch_after b id ending; before = live_before b id ending; gone = ended b id ending; others = other_kept b id ending }

-- one that is not live was let go
let_go_before : (b : BookValue) (id : JobId) → holds b id ≡ false → LetsGo b b id
let_go_before b id stale = record { epoch = refl; before = λ j m. m; gone = λ j m same. true≢false (sym (live_held b j id m same) ∙ stale); others = λ j m other. m }

-- ---- the nodes

module _ (h : History) (old : NodesValue) (place : ℕ) (claim : LiveJob) (at : slice_get old.desk place ≡ Some (Busy claim)) where
  -- A CLAIM IS GIVEN BACK, AND ITS DISPATCHER IS IDLE.
  pub gave_back : (new : CoordValue) → new ≡ after_give_back old.core claim.id → KeepsSound old.core new → IsHistory h old → IsHistory h (record old { core = new; desk = slice_set old.desk place Idle })
  gave_back new same keeps is =
      let book : new.book ≡ after_settling old.core.book claim.id Returned = ap (λ (c : CoordValue). c.book) same in
      let before : (j : LiveJob) → IsIn j new.book.live → IsIn j old.core.book.live = λ j m. live_before old.core.book claim.id Returned j (subst (λ (b : BookValue). IsIn j b.live) book m) in
      record {
        files = files_stay h old.core new (ap (λ (c : CoordValue). c.served) same) (ap (λ (c : CoordValue). c.stored.edits) same) (λ r m. subst (λ (c : CoordValue). IsIn r c.retired) same m) is.files;
        jobs = record {
          all = is.jobs.all;
          begun = λ j m. subst (λ (b : BookValue). j.id.epoch ≤ b.epoch) (sym book) (begun_after old.core.book claim.id Returned j.id.epoch (is.jobs.begun j m));
          made = subst (λ (b : BookValue). b.made ≡ length (of_epoch b.epoch h.jobs)) (sym book) (counted_after h.jobs old.core.book claim.id Returned is.jobs.made);
          sound = λ j m held. keeps j (is.jobs.sound j m (fewer_held old.core.book new.book j.id before held)) held;
        };
        claims = claims_let_go h old.core.book new.book old.desk place claim at (subst (λ (b : BookValue). LetsGo old.core.book b claim.id) (sym book) (ends old.core.book claim.id Returned)) is.claims;
        network = is.network;
      }

  -- A dispatcher lets go a claim that is not live.
  pub put_down : holds old.core.book claim.id ≡ false → IsHistory h old → IsHistory h (record old { desk = slice_set old.desk place Idle })
  put_down stale is = record {
    files = is.files;
    jobs = is.jobs;
    claims = claims_let_go h old.core.book old.core.book old.desk place claim at (let_go_before old.core.book claim.id stale) is.claims;
    network = is.network;
  }
