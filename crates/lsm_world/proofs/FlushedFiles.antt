-- A flush: its file is one more of the history.
use Rattle.std.proofs.Common.{◌≡◌, ◌+◌, ◌<◌, ◌≤◌, List, [], ◌∷◌, ◌++◌, refl, sym, ap, subst, ◌∙◌, arith, inl, inr}
use Rattle.lsm_key.specs.Sets.{IsIn}
use Rattle.lsm_claim.specs.Book.{BookValue}
use Rattle.lsm_table.specs.Tables.{Opened}
use Rattle.lsm_edit.specs.declared.edit.Edit.{Edit}
use Rattle.lsm_edit.specs.declared.file.FileMeta.{FileMeta}
use Rattle.lsm_edit.specs.declared.served.Placed.{Placed}
use Rattle.lsm_edit.specs.Edits.{Apply}
use Rattle.lsm_edit.specs.Version.{after_apply, first_version}
use Rattle.lsm_edit.proofs.ServedPlaces.{file_of, place_of}
use Rattle.lsm_edit.proofs.VersionLaws.{fresh_added}
use Rattle.lsm_versions.specs.Manifest.{read_edits}
use Rattle.lsm_versions.proofs.ManifestReplay.{read_edits-push}
use Rattle.lsm_coord.specs.declared.dispatcher.Dispatcher.{Dispatcher}
use Rattle.lsm_coord.specs.Contract.Calls.{Adds, AddsTable}
use Rattle.lsm_coord.specs.Contract.Memory.{IsFit}
use Rattle.lsm_coord.specs.Contract.Sound.{KeepsSound}
use Rattle.lsm_coord.specs.Contract.Value.{CoordValue}
use Rattle.lsm_world.specs.History.{History, IsHistory, IsFileOf, AreFiles, AreJobs, AreClaims, versions_in}
use Rattle.lsm_world.specs.Nodes.{NodesValue}
use Rattle.lsm_world.proofs.GrowingHistory.{Grows, Keeps, NameOneFile, goes_on, same_jobs, table_stays}
use Rattle.lsm_world.proofs.LoggedHistories.{grown_versions, listed_on, logs_one}
use Rattle.lsm_world.proofs.QuietCalls.{jobs_stay}

-- the history with one file more, and one edit
abbrev with_file : History → Edit → Placed → History
with_file h e p = record h { files = p ∷ h.files; edits = h.edits ++ e ∷ [] }

module _ (h : History) (old new : CoordValue) (file : FileMeta) (table : Opened) (fit : IsFit old) (fit_new : IsFit new) (adds : AddsTable old file table new) (is : AreFiles h old) where
  abbrev place : Placed
  place = record { meta = file; table = table }

  abbrev more : History
  more = with_file h adds.edit place

  places_are : new.served.places ≡ place ∷ old.served.places
  places_are = ap (λ (c : CoordValue). c.served.places) adds.new_is

  next_is : new.served.version.next_file ≡ old.served.version.next_file + 1
  next_is = ap (λ (c : CoordValue). c.served.version.next_file) adds.new_is

  version_is : new.served.version ≡ after_apply old.served.version adds.edit
  version_is = ap (λ (c : CoordValue). c.served.version) adds.new_is ∙ ap (λ (e : Edit). after_apply old.served.version e) (sym adds.edit_is)

  pushed : new.stored.edits ≡ old.stored.edits ++ adds.text ∷ []
  pushed = ap (λ (c : CoordValue). c.stored.edits) adds.new_is

  edits_are : more.edits ≡ read_edits new.stored.edits
  edits_are = ap (λ (es : List Edit). es ++ adds.edit ∷ []) is.edits ∙ sym (read_edits-push old.stored.edits adds.text adds.edit adds.spelled) ∙ ap read_edits (sym pushed)

  -- the new file's number was not given before
  fresh : old.served.version.next_file ≤ file.number
  fresh = fresh_added old.served.version adds.edit adds.applies file (subst (λ (e : Edit). IsIn file e.added) (sym adds.edit_is) (inl refl))

  here : IsIn place new.served.places
  here = subst (IsIn place) (sym places_are) (inl refl)

  one_file : NameOneFile more.files
  one_file p q mp mq same = elim mp [
    | inl first ↦ elim mq [
      | inl both ↦ first ∙ sym both
      | inr rest ↦ let low = is.given q rest in let its = ap (λ (x : Placed). x.meta.number) first in let up = fresh in absurd (omega (arith, low, its, up, same))
    ]
    | inr rest ↦ elim mq [
      | inl first ↦ let low = is.given p rest in let its = ap (λ (x : Placed). x.meta.number) first in let up = fresh in absurd (omega (arith, low, its, up, same))
      | inr both ↦ is.all.one p q rest both same
    ]
  ]

  grows : Grows h more
  grows = record {
    files = λ p m. inr m;
    jobs = λ j m. m;
    one = one_file;
    edits = logs_one h more old.stored.edits new.stored.edits adds.text adds.edit old.served.version new.served.version fit.manifest adds.spelled pushed version_is is.edits edits_are;
  }

  grown : versions_in more ≡ versions_in h ++ new.served.version ∷ []
  grown = grown_versions h more old.stored.edits new.stored.edits adds.text adds.edit old.served.version new.served.version fit.manifest adds.spelled pushed version_is is.edits edits_are

  served_file : (p : Placed) → IsIn p new.served.places → IsIn p more.files
  served_file p m = elim (subst (IsIn p) places_are m) [ inl first ↦ inl first | inr rest ↦ inr (is.served p rest) ]

  -- each file of the new version has a place
  current_file : (f : FileMeta) → IsIn f new.served.version.files → IsFileOf more f
  current_file f m = let p = place_of new.served fit_new.version fit_new.served f m in (p.0, served_file p.0 p.1, sym p.2)

  flushed_files : AreFiles more new
  flushed_files = record {
    all = record {
      one = one_file;
      recorded = λ p m. elim m [ inl first ↦ fit_new.served.recorded p (subst (λ (x : Placed). IsIn x new.served.places) (sym first) here) | inr rest ↦ is.all.recorded p rest ];
      apply = subst (Apply first_version) (sym edits_are) fit_new.manifest.apply;
      listed = listed_on h more old.stored.edits new.stored.edits adds.text adds.edit old.served.version new.served.version fit.manifest adds.spelled pushed version_is is.edits edits_are grows is.all current_file;
    };
    edits = edits_are;
    given = λ p m. elim m [
      | inl first ↦
          let low = fit_new.version.below place.meta (file_of new.served fit_new.version fit_new.served place here) in
          subst (λ (x : Placed). x.meta.number < new.served.version.next_file) (sym first) low
      | inr rest ↦ let low = is.given p rest in let next = next_is in omega (arith, low, next)
    ];
    served = served_file;
    retired = λ r m. table_stays h more grows r.number r.bytes (is.retired r (subst (λ (c : CoordValue). IsIn r c.retired) adds.new_is m));
  }

-- the jobs are those of the history with one file more
with_file_jobs : (h : History) (e : Edit) (p : Placed) (c : CoordValue) → Grows h (with_file h e p) → AreJobs h c → AreJobs (with_file h e p) c
with_file_jobs h e p c grows is = record {
  all = same_jobs h (with_file h e p) grows refl is.all;
  begun = is.begun;
  made = is.made;
  sound = is.sound;
}

with_file_claims : (h : History) (e : Edit) (p : Placed) (book : BookValue) (desk : List Dispatcher) → AreClaims h book desk → AreClaims (with_file h e p) book desk
with_file_claims h e p book desk is = record { four = is.four; live = is.live; current = is.current; picked = is.picked; one = is.one }

-- A FLUSH KEEPS THE HISTORY, WITH ITS FILE.
pub after_flush : (h : History) (old : NodesValue) (new : CoordValue) → IsFit old.core → IsFit new → Adds old.core new → KeepsSound old.core new → IsHistory h old → Keeps h (record old { core = new })
after_flush h old new fit fit_new adds keeps is =
    let file : FileMeta = adds.0 in
    let table : Opened = adds.1 in
    let p : Placed = record { meta = file; table = table } in
    let by : AddsTable old.core file table new = adds.3 in
    let book : new.book ≡ old.core.book = ap (λ (c : CoordValue). c.book) by.new_is in
    let on = grows h old.core new file table fit fit_new by is.files in
    record {
      more = with_file h by.edit p;
      grows = on;
      known = goes_on h (with_file h by.edit p) old new old.desk is on
          (flushed_files h old.core new file table fit fit_new by is.files)
          (with_file_jobs h by.edit p new on (jobs_stay h old.core new book keeps is.jobs))
          (with_file_claims h by.edit p new.book old.desk (subst (λ (b : BookValue). AreClaims h b old.desk) (sym book) is.claims));
      current = inr (record { fit = fit_new; grown = grown h old.core new file table fit fit_new by is.files });
    }
