-- An install: its outputs are further files of the history, its inputs retire, and the claim's dispatcher is idle.
use Rattle.std.proofs.Common.{◌≡◌, ℕ, ◌+◌, ◌<◌, ◌≤◌, Bool, not, Some, List, [], ◌∷◌, ◌++◌, refl, sym, ap, subst, ◌∙◌, arith, inl, inr, length}
use Rattle.std.specs.Prelude.{filter, slice_get, slice_set}
use Rattle.std.specs.List.{list_any}
use Rattle.lsm_key.specs.Sets.{IsIn}
use Rattle.lsm_key.proofs.AscendingEntries.{IsIn-filter}
use Rattle.lsm_key.proofs.Membership.{IsIn-append_cases, IsIn-append_left, IsIn-append_right, IsIn-mapped}
use Rattle.lsm_claim.specs.declared.ending.Ending.TheVariants as ending
use Rattle.lsm_claim.specs.declared.job.JobId.{JobId}
use Rattle.lsm_claim.specs.declared.job.LiveJob.{LiveJob}
use Rattle.lsm_claim.specs.Book.{BookValue, after_settling}
use Rattle.lsm_table.specs.Tables.{Opened}
use Rattle.lsm_edit.specs.declared.file.FileMeta.{FileMeta}
use Rattle.lsm_edit.specs.declared.served.Placed.{Placed}
use Rattle.lsm_edit.specs.Served.{AllRecorded, placed_of, places_without}
use Rattle.lsm_edit.specs.declared.edit.Edit.{Edit}
use Rattle.lsm_edit.specs.Edits.{Apply}
use Rattle.lsm_edit.specs.Version.{after_apply, first_version, has_number}
use Rattle.lsm_edit.proofs.PlacesInOrder.{placed_meta, placed_recorded}
use Rattle.lsm_edit.proofs.ServedAfterEdit.{put_all-members}
use Rattle.lsm_edit.proofs.ServedPlaces.{place_of}
use Rattle.lsm_msg.specs.declared.job.JobResult.{JobResult}
use Rattle.lsm_versions.specs.declared.retired.Retired.{Retired}
use Rattle.lsm_versions.specs.Manifest.{read_edits}
use Rattle.lsm_versions.specs.Retention.{retire, retired_by}
use Rattle.lsm_versions.proofs.ManifestReplay.{read_edits-push}
use Rattle.lsm_versions.proofs.RetiredByNumber.{put_cases}
use Rattle.lsm_coord.specs.declared.coord.install.Install.TheVariants as became
use Rattle.lsm_coord.specs.declared.dispatcher.Dispatcher.TheVariants.{Idle, Busy}
use Rattle.lsm_coord.specs.Contract.Installing.{Became, IsInstallDone, IsAcceptable, install_edit_of, records}
use Rattle.lsm_coord.specs.Contract.Memory.{IsFit}
use Rattle.lsm_coord.specs.Contract.Sound.{KeepsSound}
use Rattle.lsm_coord.specs.Contract.Value.{CoordValue}
use Rattle.lsm_coord.proofs.GiveBackSteps.{live_before}
use Rattle.lsm_coord.proofs.InstallEdits.{recorded_of, records_end, records_recorded}
use Rattle.lsm_coord.proofs.InstallOutcomes.{done_is, done_spelled, live_is}
use Rattle.lsm_coord.proofs.OpenedOutputs.{tables_each}
use Rattle.lsm_store.proofs.Compactions.{fewer_held}
use Rattle.lsm_world.specs.History.{AreClaims, AreFiles, AreJobs, History, IsFileOf, IsHistory, IsTableAt, of_epoch, versions_in}
use Rattle.lsm_world.specs.Nodes.{NodesValue}
use Rattle.lsm_world.proofs.DeskPlaces.{LetsGo, claims_let_go}
use Rattle.lsm_world.proofs.EndedClaims.{begun_after, counted_after, ends}
use Rattle.lsm_world.proofs.GrowingHistory.{Grows, Keeps, goes_on, same_jobs, table_stays}
use Rattle.lsm_world.proofs.LoggedHistories.{grown_versions, listed_on, logs_one}

-- ---- records with their tables

abbrev outputs_at : ℕ → ℕ → List Opened → List Placed
outputs_at level number ts = placed_of (records level number ts) ts

numbered_from : (level number : ℕ) (ts : List Opened) (p : Placed) → IsIn p (outputs_at level number ts) → number ≤ p.meta.number
numbered_from level number ts p m = (recorded_of level number ts p.meta (placed_meta (records level number ts) ts p m)).5

numbered_below : (level number : ℕ) (ts : List Opened) (p : Placed) → IsIn p (outputs_at level number ts) → p.meta.number < number + length ts
numbered_below level number [] p m = absurd m
numbered_below level number (t ∷ ts) p m = elim m [
  | inl first ↦ let own = ap (λ (x : Placed). x.meta.number) first in omega (arith, own)
  | inr rest ↦ let below = numbered_below level (number + 1) ts p rest in omega (arith, below)
]

outputs_one : (level number : ℕ) (ts : List Opened) (p q : Placed) → IsIn p (outputs_at level number ts) → IsIn q (outputs_at level number ts) → p.meta.number ≡ q.meta.number → p ≡ q
outputs_one level number [] p q mp mq same = absurd mp
outputs_one level number (t ∷ ts) p q mp mq same = elim mp [
  | inl a ↦ elim mq [
    | inl b ↦ a ∙ sym b
    | inr b ↦ let own = ap (λ (x : Placed). x.meta.number) a in let up = numbered_from level (number + 1) ts q b in absurd (omega (arith, own, up, same))
  ]
  | inr a ↦ elim mq [
    | inl b ↦ let own = ap (λ (x : Placed). x.meta.number) b in let up = numbered_from level (number + 1) ts p a in absurd (omega (arith, own, up, same))
    | inr b ↦ outputs_one level (number + 1) ts p q a b same
  ]
]

-- ---- the files

module _ (h : History) (c new : CoordValue) (live : LiveJob) (made : JobResult) (ts : List Opened) (accepted : IsAcceptable c.limits.block c.served.version live made ts) (done : IsInstallDone c live ts new) (fit : IsFit c) (fit_new : IsFit new) (is : AreFiles h c) where
  abbrev outputs : List Placed
  outputs = outputs_at (live.want.level + 1) c.served.version.next_file ts

  abbrev edit : Edit
  edit = install_edit_of c.served.version live.want ts

  -- the history with the outputs, and the edit
  abbrev with_outputs : History
  with_outputs = record h { files = outputs ++ h.files; edits = h.edits ++ edit ∷ [] }

  abbrev is_input : Placed → Bool
  is_input p = list_any (λ n. has_number n p.meta) live.want.files

  next_is : new.served.version.next_file ≡ c.served.version.next_file + length ts
  next_is = ap (λ (x : CoordValue). x.served.version.next_file) (done_is c live ts new done) ∙ records_end (live.want.level + 1) c.served.version.next_file ts

  version_is : new.served.version ≡ after_apply c.served.version (install_edit_of c.served.version live.want ts)
  version_is = ap (λ (x : CoordValue). x.served.version) (done_is c live ts new done)

  pushed : new.stored.edits ≡ c.stored.edits ++ done.text ∷ []
  pushed = ap (λ (x : CoordValue). x.stored.edits) (done_is c live ts new done)

  edits_are : with_outputs.edits ≡ read_edits new.stored.edits
  edits_are = ap (λ (es : List Edit). es ++ edit ∷ []) is.edits ∙ sym (read_edits-push c.stored.edits done.text edit (done_spelled c live ts new done)) ∙ ap read_edits (sym pushed)

  -- outputs have numbers that were not given before
  apart : (p q : Placed) → IsIn p outputs → IsIn q h.files → p.meta.number ≡ q.meta.number → ⊥
  apart p q mp mq same = let up = numbered_from (live.want.level + 1) c.served.version.next_file ts p mp in let low = is.given q mq in omega (arith, up, low, same)

  one_file : (p q : Placed) → IsIn p with_outputs.files → IsIn q with_outputs.files → p.meta.number ≡ q.meta.number → p ≡ q
  one_file p q mp mq same = elim (IsIn-append_cases p outputs h.files mp) [
    | inl a ↦ elim (IsIn-append_cases q outputs h.files mq) [
      | inl b ↦ outputs_one (live.want.level + 1) c.served.version.next_file ts p q a b same
      | inr b ↦ absurd (apart p q a b same)
    ]
    | inr a ↦ elim (IsIn-append_cases q outputs h.files mq) [
      | inl b ↦ absurd (apart q p b a (sym same))
      | inr b ↦ is.all.one p q a b same
    ]
  ]

  grows : Grows h with_outputs
  grows = record {
    files = λ p m. IsIn-append_right p outputs h.files m;
    jobs = λ j m. m;
    one = one_file;
    edits = logs_one h with_outputs c.stored.edits new.stored.edits done.text edit c.served.version new.served.version fit.manifest (done_spelled c live ts new done) pushed version_is is.edits edits_are;
  }

  grown : versions_in with_outputs ≡ versions_in h ++ new.served.version ∷ []
  grown = grown_versions h with_outputs c.stored.edits new.stored.edits done.text edit c.served.version new.served.version fit.manifest (done_spelled c live ts new done) pushed version_is is.edits edits_are

  served_file : (p : Placed) → IsIn p new.served.places → IsIn p with_outputs.files
  served_file p m = elim ((put_all-members outputs (places_without live.want.files c.served.places) p).0 (subst (λ (x : CoordValue). IsIn p x.served.places) (done_is c live ts new done) m)) [
    | inl output ↦ IsIn-append_left p outputs h.files output
    | inr stays ↦ grows.files p (is.served p (IsIn-filter (λ (x : Placed). not (is_input x)) p c.served.places stays).0)
  ]

  -- each file of the new version has a place
  current_file : (f : FileMeta) → IsIn f new.served.version.files → IsFileOf with_outputs f
  current_file f m = let p = place_of new.served fit_new.version fit_new.served f m in (p.0, served_file p.0 p.1, sym p.2)

  -- what retires now was served
  retired_file : (r : Retired) → IsIn r new.retired → IsTableAt with_outputs r.number r.bytes
  retired_file r m = elim (put_cases (retired_by c.served live.want.files) c.retired r (subst (λ (x : CoordValue). IsIn r x.retired) (done_is c live ts new done) m)) [
    | inl before ↦ table_stays h with_outputs grows r.number r.bytes (is.retired r before)
    | inr now ↦
        let p = IsIn-mapped (retire c.served.version.number) r (filter is_input c.served.places) now in
        let there = is.served p.0 (IsIn-filter is_input p.0 c.served.places p.1).0 in
        (p.0, grows.files p.0 there, ap (λ (x : Retired). x.number) (sym p.2), ap (λ (x : Retired). x.bytes) (sym p.2))
  ]

  outputs_recorded : AllRecorded outputs
  outputs_recorded =
      let level = live.want.level + 1 in
      let number = c.served.version.next_file in
      placed_recorded (records level number ts) ts (records_recorded level number ts (tables_each made.tables ts accepted.outputs.tables))

  files_after : AreFiles with_outputs new
  files_after = record {
    all = record {
      one = one_file;
      recorded = λ p m. elim (IsIn-append_cases p outputs h.files m) [ inl output ↦ outputs_recorded p output | inr before ↦ is.all.recorded p before ];
      apply = subst (Apply first_version) (sym edits_are) fit_new.manifest.apply;
      listed = listed_on h with_outputs c.stored.edits new.stored.edits done.text edit c.served.version new.served.version fit.manifest (done_spelled c live ts new done) pushed version_is is.edits edits_are grows is.all current_file;
    };
    edits = edits_are;
    given = λ p m. elim (IsIn-append_cases p outputs h.files m) [
      | inl output ↦ let below = numbered_below (live.want.level + 1) c.served.version.next_file ts p output in let next = next_is in omega (arith, below, next)
      | inr before ↦ let low = is.given p before in let next = next_is in omega (arith, low, next)
    ];
    served = served_file;
    retired = retired_file;
  }

-- ---- the nodes

-- AN INSTALL KEEPS THE HISTORY, WITH ITS OUTPUTS.
pub after_install : (h : History) (old : NodesValue) (new : CoordValue) (claim : LiveJob) (made : JobResult) (number : ℕ) (files : List ℕ) (place : ℕ)
    → IsFit old.core → IsFit new → Became old.core claim made (became.Done number files) new → KeepsSound old.core new → slice_get old.desk place ≡ Some (Busy claim) → IsHistory h old
    → Keeps h (record old { core = new; desk = slice_set old.desk place Idle })
after_install h old new claim made number files place fit fit_new done keeps at is =
    let c = old.core in
    let live = done.0 in
    let named = (live_is c claim.id live done.1).1 in
    let install : IsInstallDone c live done.2 new = done.4 in
    let more = with_outputs h c new live made done.2 done.3 install fit fit_new is.files in
    let larger : Grows h more = grows h c new live made done.2 done.3 install fit fit_new is.files in
    let book : new.book ≡ after_settling c.book claim.id ending.Installed = ap (λ (x : CoordValue). x.book) (done_is c live done.2 new install) ∙ ap (λ (id : JobId). after_settling c.book id ending.Installed) named in
    let before : (j : LiveJob) → IsIn j new.book.live → IsIn j c.book.live = λ j m. live_before c.book claim.id ending.Installed j (subst (λ (b : BookValue). IsIn j b.live) book m) in
    let jobs : AreJobs more new = record {
      all = same_jobs h more larger refl is.jobs.all;
      begun = λ j m. subst (λ (b : BookValue). j.id.epoch ≤ b.epoch) (sym book) (begun_after c.book claim.id ending.Installed j.id.epoch (is.jobs.begun j m));
      made = subst (λ (b : BookValue). b.made ≡ length (of_epoch b.epoch h.jobs)) (sym book) (counted_after h.jobs c.book claim.id ending.Installed is.jobs.made);
      sound = λ j m held. keeps j (is.jobs.sound j m (fewer_held c.book new.book j.id before held)) held;
    } in
    let left = claims_let_go h c.book new.book old.desk place claim at (subst (λ (b : BookValue). LetsGo c.book b claim.id) (sym book) (ends c.book claim.id ending.Installed)) is.claims in
    let claims : AreClaims more new.book (slice_set old.desk place Idle) = record { four = left.four; live = left.live; current = left.current; picked = left.picked; one = left.one } in
    record {
      more = more;
      grows = larger;
      known = goes_on h more old new (slice_set old.desk place Idle) is larger (files_after h c new live made done.2 done.3 install fit fit_new is.files) jobs claims;
      current = inr (record { fit = fit_new; grown = grown h c new live made done.2 done.3 install fit fit_new is.files });
    }
