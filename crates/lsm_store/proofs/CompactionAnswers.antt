-- What a compaction answers, of what its install answers.
use Rattle.std.proofs.Common.{◌≡◌, ℕ, false, Option, None, Some, Result, Ok, Err, Vec, IfOk, IfErr, OnErr, refl, sym, ap, subst, ◌∙◌, inr}
use Rattle.std.specs.Prelude.{IfSome}
use Rattle.std.proofs.lemmas.Bool.{true≢false}
use Rattle.std.proofs.lemmas.Option.{same_Some}
use Rattle.lsm_key.specs.Sets.{IsIn}
use Rattle.lsm_claim.specs.declared.ending.Ending.TheVariants as ending
use Rattle.lsm_claim.specs.declared.job.LiveJob.{LiveJob}
use Rattle.lsm_claim.specs.Book.{IsBook, after_settling, holds}
use Rattle.lsm_edit.specs.Served.{IsServed, ServedValue}
use Rattle.lsm_edit.specs.Version.{IsVersion}
use Rattle.lsm_msg.specs.declared.job.JobParts.{JobParts}
use Rattle.lsm_msg.specs.declared.job.JobResult.{JobResult}
use Rattle.lsm_pick.specs.After.{CompactPointersValue}
use Rattle.lsm_merge.specs.Outputs as merge
use Rattle.lsm_coord.specs.declared.coord.install.Install.TheVariants as became
use Rattle.lsm_coord.specs.declared.coord.install.InstallError.{InstallError}
use Rattle.lsm_coord.specs.declared.coord.install.InstallError.TheVariants.{WrongJob, BadResult, NumbersExhausted, OutOfMemory, Device}
use Rattle.lsm_coord.specs.declared.error.CoordError.{CoordError}
use Rattle.lsm_coord.specs.Model.Changes.{IsIndex}
use Rattle.lsm_coord.specs.Model.Event as say
use Rattle.lsm_coord.specs.Contract.Installing.{AreOutputTables, Became, HasNumbers, Rejects}
use Rattle.lsm_coord.specs.Contract.Picking.{IsPickedAfter}
use Rattle.lsm_coord.specs.Contract.Replies.{error_of}
use Rattle.lsm_coord.specs.Contract.Shows.{Follows, Shows}
use Rattle.lsm_coord.specs.Contract.Sound.{KeepsSound}
use Rattle.lsm_coord.specs.Model.State.{State}
use Rattle.lsm_coord.specs.Model.Step.{Step}
use Rattle.lsm_coord.specs.Contract.Value.{CoordValue}
use Rattle.lsm_coord.proofs.StateRefusals.{give_up_may}
use Rattle.lsm_coord.proofs.GiveBackSteps.{live_before, Shows-beside}
use Rattle.lsm_coord.proofs.VaultRefusals.{stored_shows}
use Rattle.lsm_store.specs.Compacting.{CompactionRefusesAfter, CompactsAfter, GivesBack, IsLeft, IsCompacted, KeptBack, tables_at}
use Rattle.lsm_store.proofs.Compactions.{claim_live, is_held, keeps_then, left_stored, made_of_inputs, made_outputs, named, picked_memory, served_is, stored_keep}
use Rattle.lsm_store.proofs.MergedOutputs.{opened_as}

-- what is answered, under whichever allocator
abbrev pub Answer : Type 0 → Type 0
Answer Z = Result (Option (ℕ × Vec ℕ Z)) CoordError

module _ {pointers : Option CompactPointersValue} (old mid new : CoordValue) (claim : LiveJob) (job : JobParts) (ver : IsVersion old.served.version) (is : IsServed old.served) (book : IsBook old.book) (picked : IsPickedAfter pointers old claim job mid) where
  never_stale : holds mid.book claim.id ≡ false → ⊥
  never_stale h = true≢false (sym (is_held old mid claim job ver is book picked) ∙ h)

  pub answers_left : {Z : Type 0} (made : JobResult) (r : Answer Z) → OnErr r (GivesBack mid claim.id made new) → OnErr r (IsLeft old new)
  answers_left made (Ok a) e = tt
  answers_left made (Err x) e = left_stored old mid claim job ver is book picked e.0 e.1 new e.2

  module _ (made : JobResult) (same_job : made.job ≡ job.id) (m : merge.IsMerge (tables_at mid.served.places job.inputs) job made.tables) where
    pub answers_made : {Z : Type 0} (r : Answer Z) → IfOk r (λ a. IfSome a (λ v. Became mid claim made (became.Done v.0 v.1.items) new)) → IfOk r (λ a. a ≡ None → holds mid.book claim.id ≡ false) → IfOk r (CompactsAfter pointers old new)
    answers_made (Ok None) done stale = absurd (never_stale (stale refl))
    answers_made (Ok (Some v)) done stale = record {
      claim = claim;
      job = job;
      claimed = mid;
      picked = picked;
      made = made;
      merged = made_of_inputs old mid claim job ver is book picked made m;
      installed = done;
    }
    answers_made (Err e) done stale = tt

    -- ---- why it is kept back

    module _ (live : LiveJob) (one : live ≡ claim) where
      refused_by : (why : InstallError) → Rejects mid.limits.block mid.served.version live made why → CompactionRefusesAfter pointers old (error_of why)
      refused_by WrongJob x = absurd (x (same_job ∙ named old mid claim job ver is book picked ∙ ap (λ (l : LiveJob). l.id) (sym one)))
      refused_by BadResult x = absurd (x.1 (opened_as made.tables m.entries, subst (λ (l : LiveJob). AreOutputTables mid.limits.block l.want.hull made.tables (opened_as made.tables m.entries)) (sym one) (made_outputs old mid claim job ver is book picked made m)))
      refused_by NumbersExhausted x = inr (record {
        claim = claim;
        job = job;
        claimed = mid;
        picked = picked;
        made = made;
        merged = made_of_inputs old mid claim job ver is book picked made m;
        tables = x.1;
        outputs = subst (λ (l : LiveJob). AreOutputTables mid.limits.block l.want.hull made.tables x.1) one x.2;
        lacks = λ has. x.3 (subst (λ (s : ServedValue). HasNumbers s.version x.1) (sym (served_is old mid claim job ver is book picked)) has);
      })
      refused_by OutOfMemory x = picked_memory old mid claim job ver is book picked
      refused_by Device x = picked_memory old mid claim job ver is book picked

    pub answers_refused : {Z : Type 0} (r : Answer Z) → IfErr r (KeptBack mid claim made) → IfErr r (CompactionRefusesAfter pointers old)
    answers_refused (Ok a) k = tt
    answers_refused (Err e) k =
        let one : k.live ≡ claim = same_Some k.live claim (sym k.is_live ∙ claim_live old mid claim job ver is book picked) in
        subst (CompactionRefusesAfter pointers old) (sym k.told) (refused_by k.live one k.why k.rejects)

    -- ---- jobs that stay sound

    pub answers_sound : {Z : Type 0} (r : Answer Z) → KeepsSound old mid → KeepsSound mid new → IfOk r (λ a. IfSome a (λ v. Became mid claim made (became.Done v.0 v.1.items) new)) → IfOk r (λ a. a ≡ None → holds mid.book claim.id ≡ false)
        → OnErr r (GivesBack mid claim.id made new) → KeepsSound old new
    answers_sound (Ok None) first second done stale back = absurd (never_stale (stale refl))
    answers_sound (Ok (Some v)) first second done stale back =
        keeps_then old mid new first second (λ j n. live_before mid.book (done.0).id ending.Installed j (subst (λ (c : CoordValue). IsIn j c.book.live) (done.4).new_is n))
    answers_sound (Err e) first second done stale back = stored_keep old mid claim job ver is book picked back.0 back.1 new first second back.2

    -- ---- the steps

    pub answers_reached : {Z : Type 0} (r : Answer Z) (dispatcher message : ℕ) → IsIndex dispatcher → (s : State) → (t : State) × Step s (say.Pick dispatcher) say.Other t × Shows mid t → IfOk r (λ a. IfSome a (λ v. Follows mid (say.Deliver message) (say.Installed v.0 v.1.items) new))
        → IfOk r (λ a. a ≡ None → holds mid.book claim.id ≡ false) → OnErr r (GivesBack mid claim.id made new) → IsCompacted dispatcher message s r new
    answers_reached (Ok None) dispatcher message index s pick steps stale back = absurd (never_stale (stale refl))
    answers_reached (Ok (Some v)) dispatcher message index s pick steps stale back =
        let u = steps pick.0 pick.2 in
        let same : pick.0 ≡ s = ((pick.1).1).1 in
        let after = (u.1).1.new_is in
        record {
          after = u.0;
          leads = (pick.0, pick.1, (u.0, u.1, refl));
          shown = u.2;
          writes = ap (λ (x : State). x.writes) after ∙ ap (λ (x : State). x.writes) same;
          snapshots = ap (λ (x : State). x.snapshots) after ∙ ap (λ (x : State). x.snapshots) same;
        }
    answers_reached (Err e) dispatcher message index s pick steps stale back =
        let t = pick.0 in
        let same : t ≡ s = ((pick.1).1).1 in
        record {
          after = t;
          leads = inr (t, pick.1, (t, (give_up_may t dispatcher pick.2.up, (index, refl)), refl));
          shown = subst (λ (c : CoordValue). Shows c t) (sym back.2) (Shows-beside back.0 (after_settling back.0.book claim.id ending.Returned) back.0.stored.tables back.0.failures t (stored_shows mid back.0 back.1 t pick.2));
          writes = ap (λ (x : State). x.writes) same;
          snapshots = ap (λ (x : State). x.snapshots) same;
        }
