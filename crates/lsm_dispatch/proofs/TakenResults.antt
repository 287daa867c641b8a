-- What becomes of a result that comes, and what whole dispatches keep.
use Rattle.std.proofs.Common.{◌≡◌, ℕ, ◌-◌, Bool, List, [], ◌∷◌, ◌++◌, None, Some, Result, Ok, Err, refl, sym, ap, subst, ◌∙◌}
use Rattle.std.specs.Bool.{if◌then◌else◌}
use Rattle.std.specs.Prelude.{OnOk}
use Rattle.lsm_claim.specs.declared.job.JobId.{JobId}
use Rattle.lsm_claim.specs.declared.job.LiveJob.{LiveJob}
use Rattle.lsm_msg.specs.declared.job.JobResult.{JobResult}
use Rattle.lsm_msg.specs.declared.message.Body.TheVariants as body
use Rattle.lsm_msg.specs.declared.node.Node.TheVariants as node
use Rattle.lsm_coord.specs.declared.error.CoordError.{CoordError}
use Rattle.lsm_coord.specs.Contract.Value.{CoordValue}
use Rattle.lsm_coord.specs.Contract.Picking.{NothingToCompact, OnlyTooLarge}
use Rattle.lsm_store.specs.Store.{Keeps}
use Rattle.lsm_store.specs.declared.due.Due.{Due}
use Rattle.lsm_store.specs.declared.due.Due.TheVariants as due
use Rattle.lsm_store.proofs.StoreSteps.{keeps_then}
use Rattle.lsm_dispatch.specs.declared.crew.WorkerState.{WorkerState}
use Rattle.lsm_dispatch.specs.declared.crew.WorkerState.TheVariants.{Gone, Idle, Busy}
use Rattle.lsm_dispatch.specs.Crews.{CrewHolds, Ends, IsBusyWith, after_leaving, busy_claim, busy_job, state_of, with_state}
use Rattle.lsm_dispatch.specs.Dispatching.{CrewRefuses, CrewTakes, HandlesMessage, InstallsInOrder, IsDue, IsLeftDue, KeepsIfMerged, ResultRefuses, TakenResult, TakesClaim}
use Rattle.lsm_dispatch.proofs.HeldClaims.{held_after_end, set_twice}
use Rattle.lsm_dispatch.proofs.KeptSteps.{kept_if_merged, passes_then}

-- ---- the worker that has the job

pub busy_of : (s : WorkerState) (claim : LiveJob) → busy_job s ≡ Some claim → s ≡ Busy claim
busy_of Gone claim e = absurd cc
busy_of Idle claim e = absurd cc
busy_of (Busy job) claim e = cc

pub has_job : (s : WorkerState) (id : JobId) → busy_job s ≡ None → IsBusyWith s id → ⊥
has_job Gone id e h = h
has_job Idle id e h = h
has_job (Busy job) id e h = absurd cc

pub same_held : (old new : CoordValue) (crew : List WorkerState) → new ≡ old → CrewHolds old.book crew → CrewHolds new.book crew
same_held old new crew same held = subst (λ (c : CoordValue). CrewHolds c.book crew) (sym same) held

-- ---- after the result

module _ (old new : CoordValue) (crew crew_new : List WorkerState) (index : ℕ) (claim : LiveJob) (made : JobResult) (had : busy_job (state_of crew index) ≡ Some claim) where
  pub taken_by : (stays : Bool) → TakesClaim old claim made stays new → crew_new ≡ with_state crew index (if stays then Idle else Gone) → CrewTakes crew old index made crew_new new
  taken_by stays takes now = record { claim = claim; had = busy_of (state_of crew index) claim had; stays = stays; takes = takes; state = now }

  pub taken_held : (x : WorkerState) → Ends old.book (claim.id ∷ []) new.book → crew_new ≡ with_state crew index x → CrewHolds old.book crew → CrewHolds new.book crew_new
  taken_held x ends now held =
      let busy : state_of crew index ≡ Busy claim = busy_of (state_of crew index) claim had in
      let mine : Ends old.book (busy_claim (state_of crew index)) new.book = subst (λ (s : WorkerState). Ends old.book (busy_claim s) new.book) (sym busy) ends in
      subst (CrewHolds new.book) (sym now) (held_after_end old.book new.book crew index x held mine)

-- why it ends in an error
pub crew_refuses : (old new : CoordValue) (crew crew_new : List WorkerState) (index : ℕ) (claim : LiveJob) (made : JobResult) (e : CoordError) → busy_job (state_of crew index) ≡ Some claim → IsBusyWith (state_of crew index) made.job → ResultRefuses old claim made e new → crew_new ≡ with_state crew index Idle
    → CrewRefuses crew old index made e crew_new new
crew_refuses old new crew crew_new index claim made e had has refuses idle =
    let busy : state_of crew index ≡ Busy claim = busy_of (state_of crew index) claim had in
    record { claim = claim; had = busy; of_job = subst (λ (s : WorkerState). IsBusyWith s made.job) busy has; refuses = refuses; idle = idle }

-- a result that is taken, or that ends in an error, of the worker that has its job
pub acts_on_result : (crew crew_new : List WorkerState) (old new : CoordValue) (index : ℕ) (made : JobResult) (r : Result (Unit {0}) CoordError) → (IsBusyWith (state_of crew index) made.job → OnOk r (CrewTakes crew old index made crew_new new))
    → ((IsBusyWith (state_of crew index) made.job → ⊥) → (crew_new ≡ crew) × (new ≡ old)) → OnOk r (HandlesMessage crew old (node.Worker index) (body.Result made) crew_new new)
acts_on_result crew crew_new old new index made (Ok x) taken late = (taken, late)
acts_on_result crew crew_new old new index made (Err e) taken late = tt

-- an idle worker is put into another state
pub dismissed : (crew mid new : List WorkerState) (index : ℕ) (a b : WorkerState) → mid ≡ with_state crew index a → new ≡ with_state mid index b → new ≡ with_state crew index b
dismissed crew mid new index a b first second = second ∙ ap (λ (w : List WorkerState). with_state w index b) first ∙ set_twice crew (index - 1) a b

pub idle_left : (mid new : CoordValue) (s : WorkerState) → s ≡ Idle → new ≡ after_leaving mid s → new ≡ mid
idle_left mid new s idle left = left ∙ ap (after_leaving mid) idle

-- ---- whole dispatches

pub ended_keeps : (old mid last new : CoordValue) → (results : List TakenResult) × InstallsInOrder old results mid → Keeps mid last → Keeps last new → KeepsIfMerged old new
ended_keeps old mid last new p first second = kept_if_merged old new (p.0 ++ [], passes_then old mid new p.0 [] p.1 (keeps_then mid last new first second))

-- what is left is no more than what exceeds a limit
pub left_due : (old new : CoordValue) (d : Due) → (d ≡ due.More → ⊥) → IsDue old new d → IsLeftDue new d
left_due old new due.Nothing other h = subst NothingToCompact (sym h.0) h.2
left_due old new due.TooLarge other h = subst OnlyTooLarge (sym h.0) h.2
left_due old new due.More other h = absurd (other refl)
