-- The history of a store's nodes over a restart: claims that are held are stale from then on, and jobs keep their names.
use Rattle.std.proofs.Common.{◌≡◌, ℕ, ◌+◌, ◌<◌, ◌≤◌, List, [], length, refl, sym, ap, subst, ◌∙◌, arith}
use Rattle.std.specs.List.{list_any}
use Rattle.std.proofs.lemmas.Bool.{true≢false}
use Rattle.lsm_key.specs.declared.limits.Limits.{Limits}
use Rattle.lsm_key.specs.Sets.{IsIn}
use Rattle.lsm_claim.specs.declared.job.JobId.{JobId}
use Rattle.lsm_claim.specs.declared.job.LiveJob.{LiveJob}
use Rattle.lsm_claim.specs.Book.{BookValue, new_book}
use Rattle.lsm_claim.specs.Jobs.{same_job_id}
use Rattle.lsm_edit.specs.Version.{VersionValue}
use Rattle.lsm_msg.specs.declared.job.JobParts.{JobParts}
use Rattle.lsm_vault.specs.Stored.{VaultValue}
use Rattle.lsm_versions.specs.declared.error.OpenError.{OpenError}
use Rattle.lsm_versions.specs.Opening.{MayHaveDropped, manifest_version}
use Rattle.lsm_coord.specs.declared.dispatcher.Dispatcher.{Dispatcher}
use Rattle.lsm_coord.specs.Contract.Memory.{IsFit}
use Rattle.lsm_coord.specs.Contract.Seats.{OpensCoord}
use Rattle.lsm_coord.specs.Contract.Value.{CoordValue}
use Rattle.lsm_world.specs.History.{AreClaims, AreJobs, History, IsDownHistory, IsHistory}
use Rattle.lsm_world.specs.Nodes.{NetworkValue, NodesValue, nodes_of}
use Rattle.lsm_world.proofs.GrowingHistory.{Grows, network_stays, same_jobs}
use Rattle.lsm_world.proofs.NumberedJobs.{none_of}
use Rattle.lsm_world.proofs.RestartedHistory.{dropped_rest, opened_files, opened_grows, refused_files, stopped_files, with_epoch}

-- no claim is live in a new book, nor of its epoch, which comes after all jobs
stale_claims : (h : History) (old : BookValue) (desk : List Dispatcher) (epoch : ℕ) → ((j : JobParts) → IsIn j h.jobs → j.id.epoch < epoch) → AreClaims h old desk → AreClaims h (new_book epoch) desk
stale_claims h old desk epoch before is = record {
  four = is.four;
  live = λ claim none. absurd none;
  current = λ place claim held same.
      let now : claim.id.epoch ≡ epoch = same in
      let of = is.picked place claim held in
      let low = before of.0 of.1 in
      let its : of.0.id.epoch ≡ claim.id.epoch = ap (λ (id : JobId). id.epoch) of.2 in
      absurd (omega (arith, low, its, now));
  picked = is.picked;
  one = is.one;
}

-- ---- a coordinator that stops

-- NODES WHOSE COORDINATOR STOPS KEEP THE HISTORY.
pub stops : (h : History) (n : NodesValue) → IsFit n.core → IsHistory h n → IsDownHistory h n.core.stored n.desk n.network
stops h n fit is =
    let last = (manifest_version n.core.stored.edits).epoch in
    let epoch : n.core.book.epoch ≡ last = fit.epoch ∙ ap (λ (v : VersionValue). v.epoch) (sym fit.manifest.makes) in
    let begun : (j : JobParts) → IsIn j h.jobs → j.id.epoch ≤ last = λ j m. subst (λ (e : ℕ). j.id.epoch ≤ e) epoch (is.jobs.begun j m) in
    record {
      files = stopped_files h n.core fit is.files;
      jobs = is.jobs.all;
      begun = begun;
      claims = stale_claims h n.core.book n.desk (last + 1) (λ j m. let low = begun j m in omega (arith, low)) is.claims;
      network = is.network;
    }

-- ---- an opening

-- THE HISTORY STAYS IF AN OPENING IS REFUSED.
pub stays_down : (h : History) (why : OpenError) (old new : VaultValue) (desk : List Dispatcher) (network : NetworkValue) → MayHaveDropped why old new → IsDownHistory h old desk network → IsDownHistory h new desk network
stays_down h why old new desk network dropped is = subst (λ (v : VaultValue). IsDownHistory h v desk network) (sym (dropped_rest why old new dropped)) (record {
  files = refused_files h why old new dropped is.files;
  jobs = is.jobs;
  begun = is.begun;
  claims = is.claims;
  network = is.network;
})

module _ (h : History) (vault : VaultValue) (limits : Limits) (c : CoordValue) (opens : OpensCoord vault limits c) (desk : List Dispatcher) (network : NetworkValue) (is : IsDownHistory h vault desk network) where
  -- its book is that with which the next epoch begins
  book_is : c.book ≡ new_book ((manifest_version vault.edits).epoch + 1)
  book_is = ap (λ (x : CoordValue). x.book) opens.is ∙ ap (λ (v : VersionValue). new_book v.epoch) opens.opens.version

  begun_before : (j : JobParts) → IsIn j h.jobs → j.id.epoch < c.book.epoch
  begun_before j m = let low = is.begun j m in let epoch : c.book.epoch ≡ (manifest_version vault.edits).epoch + 1 = ap (λ (b : BookValue). b.epoch) book_is in omega (arith, low, epoch)

  none_live : c.book.live ≡ []
  none_live = ap (λ (b : BookValue). b.live) book_is

  abbrev more : History
  more = with_epoch h vault limits c opens is.files

  grows : Grows h more
  grows = opened_grows h vault limits c opens is.files

  -- each job is of an earlier epoch, and no claim is live
  opened_jobs : AreJobs more c
  opened_jobs = record {
    all = same_jobs h more grows refl is.jobs;
    begun = λ j m. let low = begun_before j m in omega (arith, low);
    made = ap (λ (b : BookValue). b.made) book_is ∙ sym (ap (λ (js : List JobParts). length js) (none_of h.jobs c.book.epoch begun_before));
    sound = λ j m held. absurd (true≢false (sym held ∙ ap (λ (js : List LiveJob). list_any (λ (k : LiveJob). same_job_id k.id j.id) js) none_live));
  }

  opened_claims : AreClaims more c.book desk
  opened_claims =
      let now : AreClaims h c.book desk = subst (λ (b : BookValue). AreClaims h b desk) (sym book_is) is.claims in
      record { four = now.four; live = now.live; current = now.current; picked = now.picked; one = now.one }

  -- THE NODES OF A COORDINATOR THAT IS OPENED HAVE THE HISTORY, WITH THE EDIT OF THE OPENING.
  pub goes_up : IsHistory more (nodes_of c desk network)
  goes_up = record { files = opened_files h vault limits c opens is.files; jobs = opened_jobs; claims = opened_claims; network = network_stays h more grows is.jobs.inputs network is.network }
