-- A compaction from its pick on: what it installs, what it gives back, and what it leaves as it was.
use Rattle.std.proofs.Common.{◌≡◌, ℕ, ◌+◌, ◌≤◌, Bool, true, false, not, cond, List, [], ◌∷◌, ◌++◌, Option, None, Some, Bor, MutBor, refl, sym, ap, subst, ◌∙◌, arith, inl, inr}
use Rattle.std.specs.Prelude.{◌↔◌, IfSome, IsSomeAnd, MatchOption, find, sum_by}
use Rattle.std.specs.Option.{option_copied, option_copied_mut}
use Rattle.std.proofs.lemmas.Bool.{and_parts, eq-eqb, false_from_ne_true, leb-true}
use Rattle.lsm_key.specs.Places.{AreOrdered}
use Rattle.lsm_key.specs.Sets.{IsIn}
use Rattle.lsm_key.proofs.Lists.{any_from, any_is}
use Rattle.lsm_claim.specs.declared.ending.Ending.TheVariants.{Returned}
use Rattle.lsm_claim.specs.declared.job.JobId.{JobId}
use Rattle.lsm_claim.specs.declared.job.LiveJob.{LiveJob}
use Rattle.lsm_claim.specs.declared.job.Want.{Want}
use Rattle.lsm_claim.specs.Book.{BookValue, IsBook, after_settling, after_claim, holds, next_job, with_ending}
use Rattle.lsm_claim.specs.Jobs.{same_job_id, without_job}
use Rattle.lsm_table.specs.Tables.{Opened}
use Rattle.lsm_edit.specs.declared.file.FileMeta.{FileMeta}
use Rattle.lsm_edit.specs.Served.{IsServed, ServedValue, tables_of}
use Rattle.lsm_edit.specs.Version.{IsVersion, FileNumbersRise}
use Rattle.lsm_edit.proofs.VersionLaws.{rise-filter}
use Rattle.lsm_msg.specs.declared.job.JobParts.{JobParts}
use Rattle.lsm_msg.specs.declared.job.JobResult.{JobResult}
use Rattle.lsm_msg.specs.Legal.{IsLegal, Takes}
use Rattle.lsm_pick.specs.After.{CompactPointersValue}
use Rattle.lsm_merge.specs.Inputs.{HaveSameEntry, lists_of}
use Rattle.lsm_merge.specs.Outputs as merge
use Rattle.lsm_versions.specs.Kept.{StaysBelow}
use Rattle.lsm_coord.specs.Contract.Calls.{MayHaveStored, after_give_back}
use Rattle.lsm_coord.specs.Contract.Installing.{AreOutputTables, IsLive, HoldsMergeOf}
use Rattle.lsm_coord.specs.Contract.Picking.{IsPickedAfter, PickRefuses, PicksAfter}
use Rattle.lsm_coord.specs.Contract.Shows.{Shows}
use Rattle.lsm_coord.specs.Contract.Sound.{IsSound, KeepsSound}
use Rattle.lsm_coord.specs.Model.State.{State}
use Rattle.lsm_coord.specs.Contract.Value.{CoordValue}
use Rattle.lsm_coord.specs.declared.error.CoordError.TheVariants.{OutOfMemory}
use Rattle.lsm_coord.proofs.InstallOutcomes.{held_by}
use Rattle.lsm_coord.proofs.PickOrders.{orders_alike}
use Rattle.lsm_coord.proofs.PickedJobs.{inputs_taken}
use Rattle.lsm_coord.proofs.GiveBackSteps.{live_before, same_name}
use Rattle.lsm_coord.proofs.VaultRefusals.{nothing_stored}
use Rattle.lsm_store.specs.Compacting.{IsLeft, Merges, tables_at}
use Rattle.lsm_store.proofs.JobEntries.{none_shared}
use Rattle.lsm_store.proofs.MergedOutputs.{opened_as, outputs_are}
use Rattle.lsm_store.proofs.SoundJobs.{holds_merge}

-- ---- the last job of a list, whose name no other has

module _ (id : JobId) (last : LiveJob) (own : same_job_id last.id id ≡ true) where
  -- the others are those without it
  pub others_stay : (jobs : List LiveJob) → ((j : LiveJob) → IsIn j jobs → same_job_id j.id id ≡ false) → without_job id (jobs ++ last ∷ []) ≡ jobs
  others_stay [] other = ap (λ (b : Bool). cond (not b) (last ∷ []) []) own
  others_stay (j ∷ jobs) other =
      ap (λ (b : Bool). cond (not b) (j ∷ without_job id (jobs ++ last ∷ [])) (without_job id (jobs ++ last ∷ []))) (other j (inl refl))
      ∙ ap (λ (js : List LiveJob). j ∷ js) (others_stay jobs (λ k m. other k (inr m)))

  -- and it is found by its name
  pub is_found : (jobs : List LiveJob) → ((j : LiveJob) → IsIn j jobs → same_job_id j.id id ≡ false) → find (λ j. same_job_id j.id id) (jobs ++ last ∷ []) ≡ Some last
  is_found [] other = ap (λ (b : Bool). cond b (Some last) None) own
  is_found (j ∷ jobs) other =
      ap (λ (b : Bool). cond b (Some j) (find (λ k. same_job_id k.id id) (jobs ++ last ∷ []))) (other j (inl refl))
      ∙ is_found jobs (λ k m. other k (inr m))

module _ (b : BookValue) (is : IsBook b) (want : Want) where
  own_name : same_job_id (next_job b want).id (next_job b want).id ≡ true
  own_name = rw (eq-eqb b.epoch b.epoch refl) (eq-eqb (b.made + 1) (b.made + 1) refl)

  new_name : (j : LiveJob) → IsIn j b.live → same_job_id j.id (next_job b want).id ≡ false
  new_name j m = false_from_ne_true (same_job_id j.id (next_job b want).id) (λ h.
      let number : j.id.number ≡ b.made + 1 = ap (λ (i : JobId). i.number) (same_name j.id (next_job b want).id h) in
      let last = (is.given j m).last in
      omega (arith, number, last))

  claim_found : find (λ j. same_job_id j.id (next_job b want).id) (after_claim b want).live ≡ Some (next_job b want)
  claim_found = is_found (next_job b want).id (next_job b want) own_name b.live new_name

  pub claim_held : holds (after_claim b want) (next_job b want).id ≡ true
  claim_held = held_by (after_claim b want) (next_job b want) (next_job b want).id claim_found

  -- a claim that is given back leaves the live jobs as they were
  pub given_back : after_settling (after_claim b want) (next_job b want).id Returned ≡ record b { made = b.made + 1; returned = b.returned + 1 }
  given_back =
      ap (λ (held : Bool). cond held (with_ending Returned (record (after_claim b want) { live = without_job (next_job b want).id (after_claim b want).live })) (after_claim b want)) claim_held
      ∙ ap (λ (live : List LiveJob). record b { made = b.made + 1; returned = b.returned + 1; live = live }) (others_stay (next_job b want).id (next_job b want) own_name b.live new_name)

-- ---- jobs that stay sound

pub fewer_held : (b after : BookValue) (id : JobId) → ((j : LiveJob) → IsIn j after.live → IsIn j b.live) → holds after id ≡ true → holds b id ≡ true
fewer_held b after id among h =
    let found = any_is (λ j. same_job_id j.id id) after.live h in
    any_from (λ j. same_job_id j.id id) b.live found.0 (among found.0 found.1) found.2

pub keeps_then : (old mid new : CoordValue) → KeepsSound old mid → KeepsSound mid new → ((j : LiveJob) → IsIn j new.book.live → IsIn j mid.book.live) → KeepsSound old new
keeps_then old mid new first second among job sound held = second job (first job sound (fewer_held mid.book new.book job.id among held)) held

-- ---- after a pick

-- what is lent of the pointers is what was passed
lent : (passed : Option (MutBor CompactPointersValue)) (given : Option (Bor CompactPointersValue)) → MatchOption passed (given ≡ None) (λ x. IsSomeAnd given (λ y. y.now ≡ x.now)) → option_copied given ≡ option_copied_mut passed
lent None given h = ap option_copied h
lent (Some x) None h = absurd h
lent (Some x) (Some y) h = ap Some h

pub picked_by : (passed : Option (MutBor CompactPointersValue)) (given : Option (Bor CompactPointersValue)) (old mid : CoordValue) (answer : Option (LiveJob × JobParts)) (claim : LiveJob) (job : JobParts) → answer ≡ Some (claim, job)
    → MatchOption passed (given ≡ None) (λ x. IsSomeAnd given (λ y. y.now ≡ x.now)) → PicksAfter (option_copied given) old mid answer → IsPickedAfter (option_copied_mut passed) old claim job mid
picked_by passed given old mid answer claim job e same picks =
    subst (λ (pointers : Option CompactPointersValue). IsPickedAfter pointers old claim job mid) (lent passed given same) (subst (PicksAfter (option_copied given) old mid) e picks)

pub sound_by : (mid : CoordValue) (answer : Option (LiveJob × JobParts)) (claim : LiveJob) (job : JobParts) → answer ≡ Some (claim, job) → IfSome answer (λ r. IsSound mid r.1) → IsSound mid job
sound_by mid answer claim job e h = subst (λ (o : Option (LiveJob × JobParts)). IfSome o (λ r. IsSound mid r.1)) e h

pub merges_by : (tables : List Opened) (job : JobParts) (made other : Option JobResult) → made ≡ other → Merges tables job made → Merges tables job other
merges_by tables job made other e h = subst (Merges tables job) e h

module _ {pointers : Option CompactPointersValue} (old mid : CoordValue) (claim : LiveJob) (job : JobParts) (ver : IsVersion old.served.version) (is : IsServed old.served) (book : IsBook old.book) (picked : IsPickedAfter pointers old claim job mid) where
  -- memory may run out for it: it is due in the order by number too
  pub picked_memory : PickRefuses old OutOfMemory
  picked_memory = (picked.may.free, (orders_alike pointers old.limits old.served old.served old.book.live refl (is, ver)).some.0 (picked.want, picked.may.next), picked.may.fits)

  pub served_is : mid.served ≡ old.served
  served_is = ap (λ (c : CoordValue). c.served) picked.new_is

  book_is : mid.book ≡ after_claim old.book picked.want
  book_is = ap (λ (c : CoordValue). c.book) picked.new_is

  want_is : claim.want ≡ picked.want
  want_is = ap (λ (l : LiveJob). l.want) picked.claim_is

  mid_ver : IsVersion mid.served.version
  mid_ver = subst (λ (s : ServedValue). IsVersion s.version) (sym served_is) ver

  mid_is : IsServed mid.served
  mid_is = subst IsServed (sym served_is) is

  pub named : job.id ≡ claim.id
  named = picked.job_is.id ∙ ap (λ (l : LiveJob). l.id) (sym picked.claim_is)

  pub claim_live : IsLive mid claim.id claim
  claim_live =
      subst (λ (l : LiveJob). IsLive mid l.id l) (sym picked.claim_is)
      (subst (λ (b : BookValue). find (λ j. same_job_id j.id (next_job old.book picked.want).id) b.live ≡ Some (next_job old.book picked.want)) (sym book_is) (claim_found old.book book picked.want))

  pub is_held : holds mid.book claim.id ≡ true
  is_held = held_by mid.book claim claim.id claim_live

  legal : IsLegal mid.served.version.files claim.want
  legal = subst (λ (w : Want). IsLegal mid.served.version.files w) (sym want_is) (subst (λ (s : ServedValue). IsLegal s.version.files picked.want) (sym served_is) picked.may.legal)

  takes_old : (f : FileMeta) → IsIn f job.inputs ↔ Takes old.served.version.files picked.want f
  takes_old = inputs_taken old.served.version.files picked.want job.inputs picked.job_is.inputs

  takes : (f : FileMeta) → IsIn f job.inputs ↔ Takes mid.served.version.files claim.want f
  takes f = subst (λ (w : Want). IsIn f job.inputs ↔ Takes mid.served.version.files w f) (sym want_is) (subst (λ (s : ServedValue). IsIn f job.inputs ↔ Takes s.version.files picked.want f) (sym served_is) (takes_old f))

  -- the inputs are the version's files
  pub inputs_of_version : (f : FileMeta) → IsIn f job.inputs → IsIn f mid.served.version.files
  inputs_of_version f m = ((takes f).0 m).0

  inputs_rise : FileNumbersRise job.inputs
  inputs_rise = subst FileNumbersRise (sym picked.job_is.inputs) (rise-filter _ old.served.version.files ver.rising)

  inputs_few : sum_by (λ f. f.bytes) job.inputs ≤ 268435456
  inputs_few =
      let limits = and_parts _ _ picked.may.next.taken.within in
      let others = and_parts _ _ limits.1 in
      subst (λ (fs : List FileMeta). sum_by (λ f. f.bytes) fs ≤ 268435456) (sym picked.job_is.inputs) (leb-true _ _ others.0)

  -- if a state is shown, no two inputs share an entry
  pub none_same : (s : State) → Shows old s → HaveSameEntry (lists_of (tables_at mid.served.places job.inputs)) → ⊥
  none_same s h = none_shared mid.served mid_ver mid_is job.inputs inputs_of_version inputs_rise (subst (λ (v : ServedValue). AreOrdered (tables_of v.places)) (sym served_is) h.tables.ordered)

  -- ---- the result

  module _ (made : JobResult) (m : merge.IsMerge (tables_at mid.served.places job.inputs) job made.tables) where
    pub made_of_inputs : HoldsMergeOf mid.served job made
    made_of_inputs = holds_merge mid.served mid_ver mid_is job inputs_of_version made m

    pub made_outputs : AreOutputTables mid.limits.block claim.want.hull made.tables (opened_as made.tables m.entries)
    made_outputs = outputs_are mid.served mid_ver mid_is claim.want legal job takes made.tables m mid.limits.block (picked.job_is.block ∙ sym (ap (λ (c : CoordValue). c.limits.block) picked.new_is)) (omega (arith, inputs_few))

  -- ---- what is given back, after the vault may have got outputs

  pub left_stored : {MayPut : ℕ → List ℕ → Type 0} (put : CoordValue) → MayHaveStored MayPut mid put → (new : CoordValue) → new ≡ after_give_back put claim.id → IsLeft old new
  left_stored put may new e =
      let counted = given_back old.book book picked.want in
      let rest : put ≡ record old { book = after_claim old.book picked.want; stored = record old.stored { tables = put.stored.tables }; failures = put.failures } =
      may.rest ∙ (λ i. record (picked.new_is i) { stored = record (picked.new_is i).stored { tables = put.stored.tables }; failures = put.failures }) in
      let back : new ≡ record old { book = record old.book { made = old.book.made + 1; returned = old.book.returned + 1 }; stored = record old.stored { tables = put.stored.tables }; failures = put.failures } =
      e ∙ (λ i. after_give_back (rest i) (picked.claim_is i).id) ∙ ap (λ (b : BookValue). record old { book = b; stored = record old.stored { tables = put.stored.tables }; failures = put.failures }) counted in
      let same = ap (λ (c : CoordValue). c.failures) picked.new_is in
      let failed = may.counted in
      subst (IsLeft old) (sym back) (record {
        rest = refl;
        below = subst (λ (c : CoordValue). StaysBelow c.served.version.next_file c.stored.tables put.stored.tables) picked.new_is may.below;
        counted = omega (arith, same, failed);
        book = inr refl;
      })

  pub left_again : (new : CoordValue) → new ≡ after_give_back mid claim.id → IsLeft old new
  left_again = left_stored {MayPut = λ n bytes. ⊥} mid (nothing_stored mid)

  pub stored_keep : {MayPut : ℕ → List ℕ → Type 0} (put : CoordValue) → MayHaveStored MayPut mid put → (new : CoordValue) → KeepsSound old mid → KeepsSound mid new → new ≡ after_give_back put claim.id → KeepsSound old new
  stored_keep put may new first second e =
      keeps_then old mid new first second (λ j n.
      let there : IsIn j put.book.live = live_before put.book claim.id Returned j (subst (λ (c : CoordValue). IsIn j c.book.live) e n) in
      subst (λ (c : CoordValue). IsIn j c.book.live) may.rest there)

  pub back_keeps : (new : CoordValue) → KeepsSound old mid → KeepsSound mid new → new ≡ after_give_back mid claim.id → KeepsSound old new
  back_keeps = stored_keep {MayPut = λ n bytes. ⊥} mid (nothing_stored mid)
