-- What becomes of a result: its claim ends, and the tables that it replaced are let go.
use Rattle.std.proofs.Common.{◌≡◌, ℕ, Bool, true, List, [], ◌∷◌, Option, Some, Result, Ok, Err, IfErr, IfOk, refl, sym, ap, subst, ◌∙◌, inl, inr}
use Rattle.lsm_claim.specs.declared.job.JobId.{JobId}
use Rattle.lsm_claim.specs.declared.job.LiveJob.{LiveJob}
use Rattle.lsm_claim.specs.Book.{BookValue}
use Rattle.lsm_msg.specs.declared.job.JobResult.{JobResult}
use Rattle.lsm_coord.specs.declared.coord.install.Install.TheVariants as became
use Rattle.lsm_coord.specs.declared.coord.install.InstallError.{InstallError}
use Rattle.lsm_coord.specs.declared.error.CoordError.{CoordError}
use Rattle.lsm_coord.specs.Contract.Calls.{TrimRefuses, after_give_back}
use Rattle.lsm_coord.specs.Contract.Installing.{Became}
use Rattle.lsm_coord.specs.Contract.Replies.{error_of}
use Rattle.lsm_coord.specs.Contract.Value.{CoordValue}
use Rattle.lsm_coord.proofs.InstallRefusals.{rejected_stored}
use Rattle.lsm_store.specs.Store.{Keeps}
use Rattle.lsm_dispatch.specs.Crews.{Ends}
use Rattle.lsm_dispatch.specs.Dispatching.{InstallsInOrder, IsMergeOfJob, ResultRefuses, Settles, TakenResult, TakesClaim, TrimsAfter, stays_after}
use Rattle.lsm_dispatch.proofs.HeldClaims.{ends_kept}
use Rattle.lsm_dispatch.proofs.KeptSteps.{keeps_same}

-- ---- a result that is refused

module _ (old mid new : CoordValue) (claim back : LiveJob) (made : JobResult) (why : InstallError) (b : Became old claim made (became.Kept back why) mid) (given : new ≡ after_give_back mid back.id) where
  returned : new ≡ after_give_back mid claim.id
  returned = given ∙ ap (λ (l : LiveJob). after_give_back mid l.id) b.2

  pub kept_settles : Settles old claim made (Err why) new
  kept_settles = (mid, subst (λ (l : LiveJob). Became old claim made (became.Kept l why) mid) b.2 b, returned)

  pub kept_ended : Ends old.book (claim.id ∷ []) new.book
  kept_ended = ends_kept old mid new claim.id (rejected_stored made why old mid b.4) returned

-- ---- a result that is installed, and its trim

pub ended_same_book : (old mid new : BookValue) (ids : List JobId) → Ends old ids mid → new ≡ mid → Ends old ids new
ended_same_book old mid new ids ends same = subst (Ends old ids) (sym same) ends

pub installed_passes : (old mid new : CoordValue) (claim : LiveJob) (made : JobResult) (number : ℕ) → Settles old claim made (Ok (Some number)) mid → (IsMergeOfJob (record { at = old; claim = claim; made = made }) → Keeps old mid) → Keeps mid new → (results : List TakenResult) × InstallsInOrder old results new
installed_passes old mid new claim made number settles merged after =
    (record { at = old; claim = claim; made = made } ∷ [], (keeps_same old, mid, (number, settles.0, settles.1), merged, after))

pub took : (old mid new : CoordValue) (claim : LiveJob) (made : JobResult) (answer : Result (Option ℕ) InstallError) (stays : Bool) → Settles old claim made answer mid → TrimsAfter answer mid new → stays ≡ stays_after answer → TakesClaim old claim made stays new
took old mid new claim made answer stays settles trims is = record { answer = answer; mid = mid; settles = settles; trims = trims; stays_is = is }

pub trim_refuses : (old mid new : CoordValue) (claim : LiveJob) (made : JobResult) (number : ℕ) (e : CoordError) → Settles old claim made (Ok (Some number)) mid → TrimRefuses mid number e new → ResultRefuses old claim made e new
trim_refuses old mid new claim made number e settles trims = inr (number, mid, settles, trims)

-- ---- a refusal, and whether the worker stays

pub refused_ok : (old new : CoordValue) (claim : LiveJob) (made : JobResult) (why : InstallError) (r : Result Bool CoordError) → Settles old claim made (Err why) new → IfOk r (λ stays. stays ≡ stays_after (Err why)) → IfOk r (λ stays. TakesClaim old claim made stays new)
refused_ok old new claim made why (Ok stays) settles is = took old new new claim made (Err why) stays settles refl is
refused_ok old new claim made why (Err e) settles is = tt

pub refused_why : (old new : CoordValue) (claim : LiveJob) (made : JobResult) (why : InstallError) (r : Result Bool CoordError) → Settles old claim made (Err why) new → IfErr r (λ e. (stays_after (Err why) ≡ true) × (e ≡ error_of why)) → IfErr r (λ e. ResultRefuses old claim made e new)
refused_why old new claim made why (Ok stays) settles is = tt
refused_why old new claim made why (Err e) settles is = inl (why, settles, is.0, is.1)
