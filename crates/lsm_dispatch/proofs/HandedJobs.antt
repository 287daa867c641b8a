-- What a coordinator and its crew are after a job is handed out.
use Rattle.std.proofs.Common.{◌≡◌, ℕ, zero, suc, ◌-◌, ◌<◌, ◌≤◌, List, [], ◌∷◌, Option, get_or, refl, sym, ap, subst, ◌∙◌, inl, inr, arith}
use Rattle.std.specs.Prelude.{slice_set}
use Rattle.std.proofs.lemmas.Bool.{true≢false}
use Rattle.lsm_key.specs.Sets.{IsIn}
use Rattle.lsm_key.proofs.Membership.{IsIn-append_right}
use Rattle.lsm_claim.specs.declared.job.Want.{Want}
use Rattle.lsm_pick.specs.After.{CompactPointersValue}
use Rattle.lsm_pick.specs.Closure.{Candidate}
use Rattle.lsm_pick.specs.Rule.{IsBlocked, IsEligible, IsTooLarge, fits_limits, is_free}
use Rattle.lsm_pick.proofs.OneWant.{one_want}
use Rattle.lsm_claim.specs.declared.job.LiveJob.{LiveJob}
use Rattle.lsm_claim.specs.Book.{BookValue, after_claim, next_job}
use Rattle.lsm_msg.specs.declared.job.JobParts.{JobParts}
use Rattle.lsm_coord.specs.Contract.Memory.{IsFit}
use Rattle.lsm_coord.specs.Contract.Picking.{IsPickedAfter, candidates_in_order, candidates_of}
use Rattle.lsm_coord.specs.Contract.Value.{CoordValue}
use Rattle.lsm_coord.proofs.PickOrders.{orders_alike}
use Rattle.lsm_store.specs.Store.{IsNoneDue}
use Rattle.lsm_dispatch.specs.declared.crew.WorkerState.{WorkerState}
use Rattle.lsm_dispatch.specs.declared.crew.WorkerState.TheVariants.{Gone, Idle, Busy}
use Rattle.lsm_dispatch.specs.Crews.{CrewHolds, after_leaving, state_of, with_state}
use Rattle.lsm_dispatch.proofs.HeldClaims.{held_after_pick}

-- an idle worker has a picked job, and the state that it left had no claim
module _ {pointers : Option CompactPointersValue} (old mid new : CoordValue) (crew crew_new : List WorkerState) (index : ℕ) (claim : LiveJob) (job : JobParts)
    (idle : state_of crew index ≡ Idle) (picked : IsPickedAfter pointers old claim job mid) (left : new ≡ after_leaving mid (state_of crew index)) where
  pub same_left : new ≡ mid
  same_left = left ∙ ap (after_leaving mid) idle

  pub handed_picked : IsPickedAfter pointers old claim job new
  handed_picked = subst (IsPickedAfter pointers old claim job) (sym same_left) picked

  pub handed_held : crew_new ≡ with_state crew index (Busy claim) → state_of crew_new index ≡ Busy claim → CrewHolds old.book crew → CrewHolds new.book crew_new
  handed_held now state held =
      let want = picked.want in
      let next = next_job old.book want in
      let crew_is : crew_new ≡ with_state crew index (Busy next) = now ∙ ap (λ (l : LiveJob). with_state crew index (Busy l)) picked.claim_is in
      let state_is : state_of crew_new index ≡ Busy next = state ∙ ap (λ (l : LiveJob). Busy l) picked.claim_is in
      let state_now : state_of (with_state crew index (Busy next)) index ≡ Busy next = subst (λ (w : List WorkerState). state_of w index ≡ Busy next) crew_is state_is in
      let book_is : new.book ≡ after_claim old.book want = ap (λ (c : CoordValue). c.book) (same_left ∙ picked.new_is) in
      let ends : CrewHolds (after_claim old.book want) (with_state crew index (Busy next)) = held_after_pick old.book want crew index held idle state_now in
      subst (λ (b : BookValue). CrewHolds b crew_new) (sym book_is) (subst (CrewHolds (after_claim old.book want)) (sym crew_is) ends)

-- ---- a job that is handed out was due

module _ (c : CoordValue) (t : Candidate) (want : Want) (taken : IsEligible c.served.version.files c.book.live t want) where
  not_blocked : IsBlocked c.served.version.files c.book.live t → ⊥
  not_blocked b = true≢false (sym taken.free ∙ ap (is_free c.book.live) (sym (one_want c.served.version.files t b.0 want b.1 taken.asks)) ∙ b.2)

  not_too_large : IsTooLarge c.served.version.files c.book.live t → ⊥
  not_too_large b = true≢false (sym taken.within ∙ ap (fits_limits c.served.version.files) (sym (one_want c.served.version.files t b.0 want b.1 taken.asks)) ∙ b.3)

pub picked_due : {pointers : Option CompactPointersValue} (old new : CoordValue) (claim : LiveJob) (job : JobParts) → IsFit old → IsPickedAfter pointers old claim job new → IsNoneDue old → ⊥
picked_due {pointers} old new claim job fit picked none =
    let first = (picked.may).next in
    let among : IsIn first.candidate (candidates_in_order pointers old) = subst (IsIn first.candidate) (sym first.order) (IsIn-append_right first.candidate first.before (first.candidate ∷ first.after) (inl refl)) in
    let there : IsIn first.candidate (candidates_of old) = ((orders_alike pointers old.limits old.served old.served old.book.live refl (fit.served, fit.version)).members first.candidate).0 among in
    elim none [
      | inl blocked ↦ not_blocked old first.candidate picked.want first.taken (blocked first.candidate there)
      | inr large ↦ elim (large.0 first.candidate there) [
        | inl b ↦ not_blocked old first.candidate picked.want first.taken b
        | inr b ↦ not_too_large old first.candidate picked.want first.taken b
      ]
    ]

-- ---- another worker's state

set_apart : (crew : List WorkerState) (n k : ℕ) (x : WorkerState) → (k ≡ n → ⊥) → get_or (slice_set crew n x) k Gone ≡ get_or crew k Gone
set_apart [] n k x other = refl
set_apart (s ∷ ss) zero zero x other = absurd (other refl)
set_apart (s ∷ ss) zero (suc k) x other = refl
set_apart (s ∷ ss) (suc n) zero x other = refl
set_apart (s ∷ ss) (suc n) (suc k) x other = set_apart ss n k x (λ e. other (ap suc e))

pub state_apart : (crew : List WorkerState) (n index : ℕ) (x : WorkerState) → 1 ≤ index → index < n → state_of (with_state crew n x) index ≡ state_of crew index
state_apart crew n index x one less = set_apart crew (n - 1) (index - 1) x (λ e. omega (arith, one, less, e))

-- a worker with a job is not idle
pub set_busy : (crew : List WorkerState) (n : ℕ) (job : LiveJob) → get_or (slice_set crew n (Busy job)) n Gone ≡ Idle → ⊥
set_busy [] n job e = cc
set_busy (s ∷ ss) zero job e = cc
set_busy (s ∷ ss) (suc n) job e = set_busy ss n job e
