-- What becomes of a claim, and what an install keeps.
use Rattle.std.proofs.Common.{◌≡◌, ℕ, Bool, true, false, not, cond, ◌||◌, List, [], ◌∷◌, ◌++◌, inl, inr, Option, None, Some, refl, sym, ap, subst, ◌∙◌, unwrap_or}
use Rattle.std.specs.List.{find, list_any}
use Rattle.std.proofs.lemmas.Bool.{true≢false, false_from_ne_true}
use Rattle.lsm_key.specs.declared.entry.Entry.{Entry}
use Rattle.lsm_key.specs.Sets.{IsIn}
use Rattle.lsm_key.proofs.AscendingEntries.{IsIn-filter}
use Rattle.lsm_key.proofs.Lists.{any_from}
use Rattle.lsm_claim.specs.declared.ending.Ending.TheVariants as ending
use Rattle.lsm_claim.specs.declared.job.JobId.{JobId}
use Rattle.lsm_claim.specs.declared.job.LiveJob.{LiveJob}
use Rattle.lsm_claim.specs.declared.job.Want.{Want}
use Rattle.lsm_claim.specs.Book.{BookValue, IsBook, after_settling, holds, with_ending}
use Rattle.lsm_claim.specs.Conflicts.{conflicts}
use Rattle.lsm_claim.specs.Jobs.{same_job_id, without_job}
use Rattle.lsm_table.specs.Tables.{Opened}
use Rattle.lsm_edit.specs.declared.edit.Edit.{Edit}
use Rattle.lsm_edit.specs.Edit.{IsSpelledEdit, edit as spelling}
use Rattle.lsm_edit.specs.Served.{IsServed, ServedValue, after_advance}
use Rattle.lsm_edit.specs.Version.{IsVersion, apply_fault}
use Rattle.lsm_msg.specs.declared.job.JobResult.{JobResult}
use Rattle.lsm_msg.specs.Installs.{Installs}
use Rattle.lsm_msg.specs.Legal.{IsLegal}
use Rattle.lsm_msg.proofs.OtherJobs.{installs_keep_jobs}
use Rattle.lsm_versions.specs.Manifest.{VersionSetValue, after_logging}
use Rattle.lsm_versions.specs.Retention.{retired_after}
use Rattle.lsm_coord.specs.declared.coord.install.Install.TheVariants as became
use Rattle.lsm_coord.specs.declared.frozen.Frozen.{Frozen}
use Rattle.lsm_coord.specs.declared.snapshot.Snapshot.{Snapshot}
use Rattle.lsm_coord.specs.Contract.Installing.{AreOutputTables, Became, IsInstallDone, IsLive, install_edit_of}
use Rattle.lsm_coord.specs.Contract.Memory.{IsCoord}
use Rattle.lsm_coord.specs.Contract.Value.{CoordValue, version_set}
use Rattle.lsm_coord.specs.Inner.Putting.{PutsOutputs}
use Rattle.lsm_coord.proofs.InstallEdits.{recorded_of, records_inside, records_recorded}
use Rattle.lsm_coord.proofs.OpenedOutputs.{tables_each}
use Rattle.lsm_coord.proofs.GiveBackSteps.{epoch_after, live_before, orderly_after, same_name, same_self}

-- ---- what is found in a list

module _ {X : Type 0} (test : X → Bool) where
  some_by : (x : X) (xs : List X) (b : Bool) (y : X) → test x ≡ b → (find test xs ≡ Some y → IsIn y xs × (test y ≡ true)) → cond b (Some x) (find test xs) ≡ Some y → IsIn y (x ∷ xs) × (test y ≡ true)
  some_by x xs true y e rest h = let same : x ≡ y = ap (λ (o : Option X). unwrap_or o x) h in (inl (sym same), ap test (sym same) ∙ e)
  some_by x xs false y e rest h = let r = rest h in (inr r.0, r.1)

  pub found_some : (xs : List X) (y : X) → find test xs ≡ Some y → IsIn y xs × (test y ≡ true)
  found_some [] y h = absurd cc
  found_some (x ∷ xs) y h = some_by x xs (test x) y refl (found_some xs y) h

  none_by : (x : X) (xs : List X) (b : Bool) → (find test xs ≡ None → list_any test xs ≡ false) → cond b (Some x) (find test xs) ≡ None → (b || list_any test xs) ≡ false
  none_by x xs true rest h = absurd cc
  none_by x xs false rest h = rest h

  pub found_none : (xs : List X) → find test xs ≡ None → list_any test xs ≡ false
  found_none [] h = refl
  found_none (x ∷ xs) h = none_by x xs (test x) (found_none xs) h

-- the job of a name
pub live_is : (c : CoordValue) (id : JobId) (live : LiveJob) → IsLive c id live → IsIn live c.book.live × (live.id ≡ id)
live_is c id live h = let r = found_some (λ j. same_job_id j.id id) c.book.live live h in (r.0, same_name live.id id r.1)

-- ---- what becomes of a claim

pub unheld_after : (b : BookValue) (id : JobId) → holds b id ≡ false → after_settling b id ending.Installed ≡ b
unheld_after b id h = ap (λ (held : Bool). cond held (with_ending ending.Installed (record b { live = without_job id b.live })) b) h

pub with_book : (c : CoordValue) (b : BookValue) → b ≡ c.book → record c { book = b } ≡ c
with_book c b e = ap (λ (x : BookValue). record c { book = x }) e

pub became_done : (old : CoordValue) (claim live : LiveJob) (made : JobResult) (number : ℕ) (files : List ℕ) (new : VersionSetValue) → IsLive old claim.id live → PutsOutputs old.limits.block (version_set old) live made (record { number = number; files = files }) new
    → Became old claim made (became.Done number files)
    (record old { served = new.served; stored = new.stored; retired = new.retired; floor = new.floor; book = after_settling old.book claim.id ending.Installed; failures = new.failures })
became_done old claim live made number files new h p =
    let named = (live_is old claim.id live h).1 in
    let retired = p.new_is ∙ ap (λ (e : Edit). record (after_logging (version_set old) e p.tables) { failures = new.failures }) p.edit_is in (
      live,
      h,
      p.tables,
      p.accepted,
      record {
        edit = p.edit;
        edit_is = p.edit_is;
        applies = p.applies;
        text = spelling p.edit;
        spelled = record { sound = p.valid; spelled = refl };
        new_is = λ i. record old {
          served = (p.new_is i).served;
          stored = (p.new_is i).stored;
          retired = (retired i).retired;
          floor = (p.new_is i).floor;
          book = after_settling old.book (sym named i) ending.Installed;
          failures = new.failures;
        };
        counted = p.counted;
      },
      p.number_is,
      p.files_are,
    )

-- ---- an install, by its edit

-- the next version with its tables
abbrev pub next_served : ServedValue → Want → List Opened → ServedValue
next_served s want ts = after_advance s (install_edit_of s.version want ts) ts

module _ (old : CoordValue) (live : LiveJob) (ts : List Opened) (new : CoordValue) (done : IsInstallDone old live ts new) where
  pub done_spelled : IsSpelledEdit done.text (install_edit_of old.served.version live.want ts)
  done_spelled = subst (IsSpelledEdit done.text) done.edit_is done.spelled

  pub done_applies : apply_fault old.served.version (install_edit_of old.served.version live.want ts) ≡ None
  done_applies = subst (λ (e : Edit). apply_fault old.served.version e ≡ None) done.edit_is done.applies

  pub done_is : new ≡ record old { served = next_served old.served live.want ts; stored = record old.stored { edits = old.stored.edits ++ done.text ∷ []; tables = new.stored.tables }; retired = retired_after old.retired old.served live.want.files; book = after_settling old.book live.id ending.Installed; failures = new.failures }
  done_is =
      done.new_is
      ∙ (λ i. record old {
        served = after_advance old.served (done.edit_is i) ts;
        stored = record old.stored { edits = old.stored.edits ++ done.text ∷ []; tables = (sym done.new_is i).stored.tables };
        retired = retired_after old.retired old.served live.want.files;
        book = after_settling old.book live.id ending.Installed;
        failures = new.failures;
      })

-- ---- what an install keeps

-- outputs of a live job make an install
pub installs_of : (block : ℕ) (s : ServedValue) (want : Want) (texts : List (List ℕ)) (text : List ℕ) (ts : List Opened) → IsLegal s.version.files want → AreOutputTables block want.hull texts ts
    → IsSpelledEdit text (install_edit_of s.version want ts) → apply_fault s.version (install_edit_of s.version want ts) ≡ None → Installs s want (install_edit_of s.version want ts) ts
installs_of block s want texts text ts legal outputs spelled applies = record {
  sound = spelled.sound;
  applies = applies;
  removed = refl;
  level = λ f m. (recorded_of _ _ ts f m).2;
  inside = records_inside s.version want legal ts outputs.inside;
  recorded = records_recorded _ _ ts (tables_each texts ts outputs.tables);
}

-- a job that stays live does not conflict with the one that is installed
settled_by : (b : BookValue) (id : JobId) (j : LiveJob) (held : Bool) → holds b id ≡ held → held ≡ true → IsIn j (cond held (with_ending ending.Installed (record b { live = without_job id b.live })) b).live → IsIn j (without_job id b.live)
settled_by b id j true e h m = m
settled_by b id j false e h m = absurd cc

pub stays_apart : (b : BookValue) (id : JobId) (live j : LiveJob) → IsBook b → holds b id ≡ true → IsIn live b.live → live.id ≡ id → IsIn j (after_settling b id ending.Installed).live → conflicts live.want j.want ≡ false
stays_apart b id live j is held here named m =
    let there = settled_by b id j (holds b id) refl held m in
    let other = IsIn-filter (λ k. not (same_job_id k.id id)) j b.live there in
    false_from_ne_true (conflicts live.want j.want) (λ h.
    let one : live ≡ j = is.apart live j here other.0 h in
    true≢false (sym other.1 ∙ ap not (same_self j.id id (ap (λ (k : LiveJob). k.id) (sym one) ∙ named))))

pub held_by : (b : BookValue) (live : LiveJob) (id : JobId) → find (λ j. same_job_id j.id id) b.live ≡ Some live → holds b id ≡ true
held_by b live id h = let r = found_some (λ j. same_job_id j.id id) b.live live h in any_from (λ j. same_job_id j.id id) b.live live r.0 r.1

-- an install leaves the flushed sequence and the log as they are
pub put_same : (block : ℕ) (old : VersionSetValue) (live : LiveJob) (made : JobResult) (number : ℕ) (files : List ℕ) (new : VersionSetValue) → PutsOutputs block old live made (record { number = number; files = files }) new
    → (new.served.version.flushed ≡ old.served.version.flushed) × (new.stored.log ≡ old.stored.log)
put_same block old live made number files new p =
    let is : new ≡ record (after_logging old (install_edit_of old.served.version live.want p.tables) p.tables) { failures = new.failures } = p.new_is ∙ ap (λ (x : Edit). record (after_logging old x p.tables) { failures = new.failures }) p.edit_is in
    (ap (λ (v : VersionSetValue). v.served.version.flushed) is, ap (λ (v : VersionSetValue). v.stored.log) is)

pub after_install : (block : ℕ) (active : List Entry) (frozen : Option Frozen) (last : ℕ) (old new : VersionSetValue) (book : BookValue) (id : JobId) (live : LiveJob) (made : JobResult) (number : ℕ) (files : List ℕ) (snapshots : List Snapshot)
    → IsCoord active frozen last old.served book snapshots → IsBook book → IsServed old.served → IsVersion old.served.version → find (λ j. same_job_id j.id id) book.live ≡ Some live → PutsOutputs block old live made (record { number = number; files = files }) new
    → IsCoord active frozen last new.served (after_settling book id ending.Installed) snapshots
after_install block active frozen last old new book id live made number files snapshots is book_is served_is version_is h p =
    let served = old.served in
    let e = install_edit_of served.version live.want p.tables in
    let r = found_some (λ j. same_job_id j.id id) book.live live h in
    let spelled : IsSpelledEdit (spelling p.edit) e = subst (IsSpelledEdit (spelling p.edit)) p.edit_is (record { sound = p.valid; spelled = refl }) in
    let applies : apply_fault served.version e ≡ None = subst (λ (x : Edit). apply_fault served.version x ≡ None) p.edit_is p.applies in
    let installs = installs_of block served live.want made.tables (spelling p.edit) p.tables (is.legal live r.0) p.accepted.outputs spelled applies in
    let new_is : new ≡ record (after_logging old e p.tables) { failures = new.failures } = p.new_is ∙ ap (λ (x : Edit). record (after_logging old x p.tables) { failures = new.failures }) p.edit_is in
    subst (λ (v : VersionSetValue). IsCoord active frozen last v.served (after_settling book id ending.Installed) snapshots) (sym new_is) (record {
      recent = is.recent;
      begun = is.begun;
      waiting = is.waiting;
      opened = is.opened;
      same_epoch = epoch_after book id ending.Installed ∙ is.same_epoch;
      legal = λ j m.
          (installs_keep_jobs served live.want j.want e p.tables version_is served_is (is.legal live r.0) installs
          (stays_apart book id live j book_is (held_by book live id h) r.0 (same_name live.id id r.1) m) (is.legal j (live_before book id ending.Installed j m))).0;
      orderly = orderly_after book id ending.Installed is.orderly;
      few = is.few;
    })
