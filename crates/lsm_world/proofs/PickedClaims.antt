-- A pick: its job is one more of the history, and a dispatcher holds its claim.
use Rattle.std.proofs.Common.{◌≡◌, ℕ, ◌+◌, ◌≤◌, List, [], ◌∷◌, true, Some, length, refl, sym, ap, subst, ◌∙◌, arith, inl, inr}
use Rattle.std.specs.Prelude.{slice_get, slice_set}
use Rattle.lsm_key.specs.Sets.{IsIn}
use Rattle.lsm_key.proofs.Lists.{any_from, any_is}
use Rattle.lsm_key.proofs.Membership.{IsIn-append_cases, IsIn-append_left, IsIn-append_right, IsIn-one}
use Rattle.lsm_claim.specs.declared.job.JobId.{JobId}
use Rattle.lsm_claim.specs.declared.job.LiveJob.{LiveJob}
use Rattle.lsm_claim.specs.Book.{BookValue, after_claim, holds, next_job}
use Rattle.lsm_claim.specs.Jobs.{same_job_id}
use Rattle.lsm_edit.specs.declared.file.FileMeta.{FileMeta}
use Rattle.lsm_edit.specs.Served.{ServedValue}
use Rattle.lsm_edit.specs.Version.{VersionValue}
use Rattle.lsm_edit.proofs.ServedPlaces.{place_of}
use Rattle.lsm_msg.specs.declared.job.JobParts.{JobParts}
use Rattle.lsm_msg.specs.declared.message.Body.TheVariants as body
use Rattle.lsm_msg.specs.Jobs.{IsJob}
use Rattle.lsm_versions.proofs.ManifestReplay.{current_at}
use Rattle.lsm_coord.specs.declared.dispatcher.Dispatcher.{Dispatcher}
use Rattle.lsm_coord.specs.declared.dispatcher.Dispatcher.TheVariants.{Idle, Busy}
use Rattle.lsm_coord.specs.Contract.Memory.{IsFit}
use Rattle.lsm_coord.specs.Contract.Picking.{IsPicked}
use Rattle.lsm_coord.specs.Contract.Sound.{IsSound, KeepsSound}
use Rattle.lsm_coord.specs.Contract.Value.{CoordValue}
use Rattle.lsm_coord.proofs.GiveBackSteps.{same_name}
use Rattle.lsm_world.specs.History.{History, IsHistory, IsFileOf, IsKnown, IsVersionOf, HoldsClaim, AreFiles, AreFilesOf, AreJobs, AreClaims, WasPicked, of_epoch}
use Rattle.lsm_world.specs.Nodes.{NodesValue}
use Rattle.lsm_world.proofs.DeskPlaces.{as_many_after, get_set_cases, get_set_here, get_set_there, idle_holds_none, one_at, same_claim}
use Rattle.lsm_world.proofs.GrowingHistory.{Grows, Keeps, goes_on, pick_stays, same_edits}
use Rattle.lsm_world.proofs.LoggedHistories.{versions_are}
use Rattle.lsm_world.proofs.NumberedJobs.{WasGiven, one_more, was_given}
use Rattle.lsm_world.proofs.QuietCalls.{files_stay}

-- the history with one job more
abbrev with_job : History → JobParts → History
with_job h j = record h { jobs = j ∷ h.jobs }

with_job_files : (h : History) (j : JobParts) (c : CoordValue) → AreFiles h c → AreFiles (with_job h j) c
with_job_files h j c is = record { all = record { one = is.all.one; recorded = is.all.recorded; apply = is.all.apply; listed = is.all.listed }; edits = is.edits; given = is.given; served = is.served; retired = is.retired }

grows_by_job : (h : History) (j : JobParts) → AreFilesOf h → Grows h (with_job h j)
grows_by_job h j files = record { files = λ p m. m; jobs = λ j m. inr m; one = files.one; edits = same_edits h (with_job h j) refl }

module _ (h : History) (old new : CoordValue) (claim : LiveJob) (job : JobParts) (fit : IsFit old) (picked : IsPicked old claim job new) (sound : IsSound new job) (keeps : KeepsSound old new) (rules : IsJob job) where
  abbrev more : History
  more = with_job h job

  book_is : new.book ≡ after_claim old.book picked.want
  book_is = ap (λ (c : CoordValue). c.book) picked.new_is

  served_is : new.served ≡ old.served
  served_is = ap (λ (c : CoordValue). c.served) picked.new_is

  -- the job has the claim's name, which is the next one
  name_is : job.id ≡ claim.id
  name_is = picked.job_is.id ∙ ap (λ (j : LiveJob). j.id) (sym picked.claim_is)

  number_is : job.id.number ≡ old.book.made + 1
  number_is = ap (λ (id : JobId). id.number) picked.job_is.id

  claim_is : claim ≡ next_job old.book picked.want
  claim_is = picked.claim_is

  epoch_is : job.id.epoch ≡ old.book.epoch
  epoch_is = ap (λ (id : JobId). id.epoch) picked.job_is.id

  -- a name that was given before is another
  other_name : (id : JobId) → WasGiven old.book id → id ≡ job.id → ⊥
  other_name id (inl before) same =
      let now = epoch_is in
      let its : id.epoch ≡ job.id.epoch = ap (λ (x : JobId). x.epoch) same in
      absurd (omega (arith, before, now, its))
  other_name id (inr given) same =
      let last = given.last in
      let number = number_is in
      let its : id.number ≡ job.id.number = ap (λ (x : JobId). x.number) same in
      absurd (omega (arith, last, number, its))

  same_epoch : new.book.epoch ≡ old.book.epoch
  same_epoch = ap (λ (b : BookValue). b.epoch) book_is

  -- another name was live before
  live_before : (id : JobId) → (id ≡ job.id → ⊥) → holds new.book id ≡ true → holds old.book id ≡ true
  live_before id other held =
      let found = any_is (λ (k : LiveJob). same_job_id k.id id) (after_claim old.book picked.want).live (subst (λ (b : BookValue). holds b id ≡ true) book_is held) in
      elim (IsIn-append_cases found.0 old.book.live (next_job old.book picked.want ∷ []) found.1) [
        | inl before ↦ any_from (λ (k : LiveJob). same_job_id k.id id) old.book.live found.0 before found.2
        | inr last ↦ absurd (other (sym (same_name found.0.id id found.2) ∙ ap (λ (k : LiveJob). k.id) (IsIn-one found.0 (next_job old.book picked.want) last) ∙ sym picked.job_is.id))
      ]

  module _ (files : AreFiles h old) (jobs : AreJobs h old) where
    -- the inputs are files of the version, which have places
    input_file : (f : FileMeta) → IsIn f job.inputs → IsFileOf h f
    input_file f m =
        let listed : IsIn f new.served.version.files = ((sound.claimed.of_want.inputs f).0 m).0 in
        let p = place_of old.served fit.version fit.served f (subst (λ (s : ServedValue). IsIn f s.version.files) served_is listed) in
        (p.0, files.served p.0 p.1, sym p.2)

    -- the version is the history's
    version_known : IsVersionOf h old.served.version
    version_known = ap (λ (vs : List VersionValue). slice_get vs old.served.version.number) (versions_are h old.stored.edits files.edits) ∙ current_at old.stored.edits old.served.version fit.manifest

    -- the number is the next one of its epoch
    numbered_next : job.id.number ≡ length (of_epoch job.id.epoch h.jobs) + 1
    numbered_next =
        let count : old.book.made ≡ length (of_epoch job.id.epoch h.jobs) = jobs.made ∙ ap (λ (epoch : ℕ). length (of_epoch epoch h.jobs)) (sym epoch_is) in
        let number = number_is in
        omega (arith, count, number)

    made_after : new.book.made ≡ length (of_epoch new.book.epoch more.jobs)
    made_after =
        let made : new.book.made ≡ old.book.made + 1 = ap (λ (b : BookValue). b.made) book_is in
        let count : old.book.made ≡ length (of_epoch new.book.epoch h.jobs) = jobs.made ∙ ap (λ (epoch : ℕ). length (of_epoch epoch h.jobs)) (sym same_epoch) in
        let one = one_more job h.jobs new.book.epoch (epoch_is ∙ sym same_epoch) in
        omega (arith, made, count, one)

    jobs_after : AreJobs more new
    jobs_after = record {
      all = record {
        picked = λ j m. elim m [
          | inl same ↦ subst (WasPicked more) (sym same) (record { old = old; new = new; claim = claim; fit = fit; version = version_known; picked = picked })
          | inr rest ↦ pick_stays h more (grows_by_job h job files.all) j (jobs.all.picked j rest)
        ];
        numbered = (numbered_next, jobs.all.numbered);
        job = λ j m. elim m [ inl same ↦ subst IsJob (sym same) rules | inr rest ↦ jobs.all.job j rest ];
        one = λ i j mi mj same. elim mi [
          | inl first ↦ elim mj [
            | inl both ↦ first ∙ sym both
            | inr rest ↦ absurd (other_name j.id (was_given h old jobs j rest) (sym same ∙ ap (λ (x : JobParts). x.id) first))
          ]
          | inr rest ↦ elim mj [
            | inl first ↦ absurd (other_name i.id (was_given h old jobs i rest) (same ∙ ap (λ (x : JobParts). x.id) first))
            | inr both ↦ jobs.all.one i j rest both same
          ]
        ];
        inputs = λ j f mj mf. elim mj [ inl same ↦ input_file f (subst (λ (x : JobParts). IsIn f x.inputs) same mf) | inr rest ↦ jobs.all.inputs j f rest mf ];
      };
      begun = λ j m. elim m [
        | inl same ↦
            let own : j.id.epoch ≡ old.book.epoch = ap (λ (x : JobParts). x.id.epoch) same ∙ epoch_is in
            let epoch = same_epoch in
            omega (arith, own, epoch)
        | inr rest ↦ subst (λ (epoch : ℕ). j.id.epoch ≤ epoch) (sym same_epoch) (jobs.begun j rest)
      ];
      made = made_after;
      sound = λ j m held. elim m [
        | inl same ↦ subst (λ (x : JobParts). IsSound new x) (sym same) sound
        | inr rest ↦ keeps j (jobs.sound j rest (live_before j.id (other_name j.id (was_given h old jobs j rest)) held)) held
      ];
    }

    module _ (desk : List Dispatcher) (place : ℕ) (idle : slice_get desk place ≡ Some Idle) (claims : AreClaims h old.book desk) where
      abbrev after : List Dispatcher
      after = slice_set desk place (Busy claim)

      -- a dispatcher that held a claim still holds it
      held_still : (p : ℕ) (j : LiveJob) → HoldsClaim desk p j → HoldsClaim after p j
      held_still p j held = get_set_there desk place p (Busy claim) (λ same. idle_holds_none j (one_at desk place p Idle (Busy j) idle held same)) ∙ held

      -- no claim that was held has this name
      not_held : (p : ℕ) (j : LiveJob) → HoldsClaim desk p j → j.id ≡ claim.id → ⊥
      not_held p j held same =
          let of = claims.picked p j held in
          other_name of.0.id (was_given h old jobs of.0 of.1) (of.2 ∙ same ∙ sym name_is)

      -- a claim of the epoch that is held is live
      live_after : (p : ℕ) (j : LiveJob) → HoldsClaim after p j → j.id.epoch ≡ old.book.epoch → IsIn j (after_claim old.book picked.want).live
      live_after p j now same = elim (get_set_cases desk place p (Busy claim) (Busy j) now) [
        | inl here ↦ IsIn-append_right j old.book.live (next_job old.book picked.want ∷ []) (inl (sym (same_claim claim j here.1) ∙ claim_is))
        | inr there ↦ IsIn-append_left j old.book.live (next_job old.book picked.want ∷ []) (claims.current p j there.1 same)
      ]

      claims_after : AreClaims more new.book after
      claims_after = record {
        four = as_many_after desk place (Busy claim) ∙ claims.four;
        live = λ j m. elim (IsIn-append_cases j old.book.live (next_job old.book picked.want ∷ []) (subst (λ (b : BookValue). IsIn j b.live) book_is m)) [
          | inl before ↦ let at = claims.live j before in (at.0, held_still at.0 j at.1)
          | inr last ↦ (place, get_set_here desk place (Busy claim) Idle idle ∙ ap (λ (x : LiveJob). Some (Busy x)) (claim_is ∙ sym (IsIn-one j (next_job old.book picked.want) last)))
        ];
        current = λ p j now same. subst (λ (b : BookValue). IsIn j b.live) (sym book_is) (live_after p j now (same ∙ same_epoch));
        picked = λ p j now. elim (get_set_cases desk place p (Busy claim) (Busy j) now) [
          | inl here ↦ (job, inl refl, name_is ∙ ap (λ (x : LiveJob). x.id) (same_claim claim j here.1))
          | inr there ↦ let of = claims.picked p j there.1 in (of.0, inr of.1, of.2)
        ];
        one = λ a b j k x y same. elim (get_set_cases desk place a (Busy claim) (Busy j) x) [
          | inl here ↦ elim (get_set_cases desk place b (Busy claim) (Busy k) y) [
            | inl both ↦ here.0 ∙ sym both.0
            | inr there ↦ absurd (not_held b k there.1 (sym same ∙ ap (λ (z : LiveJob). z.id) (sym (same_claim claim j here.1))))
          ]
          | inr there ↦ elim (get_set_cases desk place b (Busy claim) (Busy k) y) [
            | inl here ↦ absurd (not_held a j there.1 (same ∙ ap (λ (z : LiveJob). z.id) (sym (same_claim claim k here.1))))
            | inr both ↦ claims.one a b j k there.1 both.1 same
          ]
        ];
      }

-- A PICK KEEPS THE HISTORY, WITH ITS JOB.
pub after_pick : (h : History) (old : NodesValue) (new : CoordValue) (claim : LiveJob) (job : JobParts) → IsFit old.core → IsPicked old.core claim job new → IsSound new job → KeepsSound old.core new → IsJob job
    → (place : ℕ) → slice_get old.desk place ≡ Some Idle → IsHistory h old
    → (kept : Keeps h (record old { core = new; desk = slice_set old.desk place (Busy claim) })) × IsKnown kept.more (body.Job job)
after_pick h old new claim job fit picked sound keeps rules place idle is =
    let same = picked.new_is in
    let files : AreFiles h new =
    files_stay h old.core new (ap (λ (c : CoordValue). c.served) same) (ap (λ (c : CoordValue). c.stored.edits) same) (λ r m. subst (λ (c : CoordValue). IsIn r c.retired) same m) is.files in
    let on = grows_by_job h job is.files.all in (
      record {
        more = with_job h job;
        grows = on;
        known = goes_on h (with_job h job) old new (slice_set old.desk place (Busy claim)) is on
            (with_job_files h job new files)
            (jobs_after h old.core new claim job fit picked sound keeps rules is.files is.jobs)
            (claims_after h old.core new claim job fit picked sound keeps rules is.files is.jobs old.desk place idle is.claims);
        current = inl refl;
      },
      inl refl,
    )
