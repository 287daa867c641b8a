-- A history over a restart: what the files of a coordinator are when it stops, those of its vault are, and those of what opens over it.
use Rattle.std.proofs.Common.{◌≡◌, ℕ, ◌^◌, ◌<◌, Bool, true, false, cond, List, [], ◌∷◌, ◌++◌, None, Some, refl, sym, ap, subst, ◌∙◌, arith, inl, inr}
use Rattle.std.specs.FinMap.{get, get-retain_keys, nat_cmp-IsAntisymmetric}
use Rattle.std.proofs.lemmas.Option.{same_Some}
use Rattle.std.proofs.lemmas.List.{append-nil}
use Rattle.lsm_key.specs.declared.limits.Limits.{Limits}
use Rattle.lsm_key.specs.Sets.{IsIn}
use Rattle.lsm_table.specs.Tables.{IsTable}
use Rattle.lsm_table.proofs.TableContents.{table_one}
use Rattle.lsm_edit.specs.declared.file.FileMeta.{FileMeta}
use Rattle.lsm_edit.specs.declared.served.Placed.{Placed}
use Rattle.lsm_edit.specs.declared.edit.Edit.{Edit}
use Rattle.lsm_edit.specs.Edit.{IsSpelledEdit, edit}
use Rattle.lsm_edit.specs.Edits.{Apply}
use Rattle.lsm_edit.specs.Next.{epoch_edit}
use Rattle.lsm_edit.specs.Served.{IsAsRecorded, ServedValue}
use Rattle.lsm_edit.specs.File.{IsFile}
use Rattle.lsm_edit.specs.Version.{FileNumbersRise, IsVersion, VersionValue, after_apply, files_without, first_version, has_overlap}
use Rattle.lsm_edit.proofs.NextLaws.{epoch_sound}
use Rattle.lsm_edit.proofs.ServedPlaces.{file_of, place_of}
use Rattle.lsm_edit.proofs.VersionLaws.{without-none}
use Rattle.lsm_vault.specs.Stored.{TableMap, VaultValue}
use Rattle.lsm_vault.proofs.StoredChanges.{tables_alone}
use Rattle.lsm_versions.specs.declared.error.OpenError.{OpenError}
use Rattle.lsm_versions.specs.declared.error.OpenError.TheVariants as opening
use Rattle.lsm_versions.specs.declared.retired.Retired.{Retired}
use Rattle.lsm_versions.specs.Manifest.{VersionSetValue, read_edits}
use Rattle.lsm_versions.specs.Opening.{MayHaveDropped, MayHaveLost, is_live_file, manifest_version}
use Rattle.lsm_versions.proofs.ManifestReplay.{read_edits-push}
use Rattle.lsm_coord.specs.Contract.Memory.{IsFit}
use Rattle.lsm_coord.specs.Contract.Seats.{OpensCoord}
use Rattle.lsm_coord.specs.Contract.Value.{CoordValue}
use Rattle.lsm_world.specs.History.{AreFiles, AreFilesKept, History, IsFileOf, versions_in}
use Rattle.lsm_world.proofs.GrowingHistory.{Grows}
use Rattle.lsm_world.proofs.LoggedHistories.{grown_versions, listed_on, logs_one}

-- the record and the bytes of a table determine its place
one_table : (p q : Placed) → p.meta ≡ q.meta → p.table.bytes ≡ q.table.bytes → IsAsRecorded p.meta p.table → IsAsRecorded q.meta q.table → p ≡ q
one_table p q meta bytes is also =
    let same = subst (λ (bs : List ℕ). IsTable bs p.table.entries) bytes is.table in
    let entries = table_one q.table.bytes p.table.entries q.table.entries same also.table in
    λ i. record { meta = meta i; table = record { bytes = bytes i; entries = entries i } }

-- ---- a coordinator that stops

module _ (h : History) (c : CoordValue) (fit : IsFit c) (is : AreFiles h c) where
  current_is : c.served.version ≡ manifest_version c.stored.edits
  current_is = sym fit.manifest.makes

  -- a file of the version with the vault's table has that place
  served_place : (p : Placed) → IsIn p.meta (manifest_version c.stored.edits).files → IsAsRecorded p.meta p.table → get c.stored.tables p.meta.number ≡ Some p.table.bytes → IsIn p h.files
  served_place p listed recorded kept =
      let q = place_of c.served fit.version fit.served p.meta (subst (λ (v : VersionValue). IsIn p.meta v.files) (sym current_is) listed) in
      let number : q.0.meta.number ≡ p.meta.number = ap (λ (f : FileMeta). f.number) (sym q.2) in
      let bytes : q.0.table.bytes ≡ p.table.bytes = same_Some q.0.table.bytes p.table.bytes (sym (fit.kept.listed q.0 q.1) ∙ ap (get c.stored.tables) number ∙ kept) in
      subst (λ (x : Placed). IsIn x h.files) (one_table q.0 p (sym q.2) bytes (fit.served.recorded q.0 q.1) recorded) (is.served q.0 q.1)

  -- WHAT THE COORDINATOR HAS OF A HISTORY, ITS VAULT HAS.
  pub stopped_files : AreFilesKept h c.stored
  stopped_files = record {
    all = is.all;
    edits = is.edits;
    given = λ p m. subst (λ (v : VersionValue). p.meta.number < v.next_file) current_is (is.given p m);
    served = served_place;
  }

-- ---- an opening that is refused

lost_none : (needed : ℕ → Bool) (old new : TableMap) → MayHaveLost needed old new → (n : ℕ) (bytes : List ℕ) → get new n ≡ Some bytes → get old n ≡ Some bytes
lost_none needed old new lost n bytes found = elim (lost n) [ inl same ↦ sym same ∙ found | inr gone ↦ let none = gone.1 in absurd cc ]

dropped_none : (why : OpenError) (old new : VaultValue) → MayHaveDropped why old new → (n : ℕ) (bytes : List ℕ) → get new.tables n ≡ Some bytes → get old.tables n ≡ Some bytes
dropped_none opening.OutOfMemory old new (inl same) n bytes found = ap (λ (v : VaultValue). get v.tables n) (sym same) ∙ found
dropped_none opening.OutOfMemory old new (inr lost) n bytes found = lost_none (is_live_file (manifest_version old.edits).files []) old.tables new.tables lost.lost n bytes found
dropped_none opening.Device old new (inl same) n bytes found = ap (λ (v : VaultValue). get v.tables n) (sym same) ∙ found
dropped_none opening.Device old new (inr lost) n bytes found = lost_none (is_live_file (manifest_version old.edits).files []) old.tables new.tables lost.lost n bytes found
dropped_none opening.BadManifest old new same n bytes found = ap (λ (v : VaultValue). get v.tables n) (sym same) ∙ found
dropped_none opening.MissingTable old new same n bytes found = ap (λ (v : VaultValue). get v.tables n) (sym same) ∙ found
dropped_none opening.BadLog old new same n bytes found = ap (λ (v : VaultValue). get v.tables n) (sym same) ∙ found
dropped_none opening.NumbersExhausted old new same n bytes found = ap (λ (v : VaultValue). get v.tables n) (sym same) ∙ found

-- all but the tables is as before
pub dropped_rest : (why : OpenError) (old new : VaultValue) → MayHaveDropped why old new → new ≡ record old { tables = new.tables }
dropped_rest opening.OutOfMemory old new (inl same) = tables_alone old new old.tables same
dropped_rest opening.OutOfMemory old new (inr lost) = lost.rest
dropped_rest opening.Device old new (inl same) = tables_alone old new old.tables same
dropped_rest opening.Device old new (inr lost) = lost.rest
dropped_rest opening.BadManifest old new same = tables_alone old new old.tables same
dropped_rest opening.MissingTable old new same = tables_alone old new old.tables same
dropped_rest opening.BadLog old new same = tables_alone old new old.tables same
dropped_rest opening.NumbersExhausted old new same = tables_alone old new old.tables same

-- WHAT A VAULT HAS OF A HISTORY, IT STILL HAS AFTER AN OPENING THAT IS REFUSED.
pub refused_files : (h : History) (why : OpenError) (old new : VaultValue) → MayHaveDropped why old new → AreFilesKept h old → AreFilesKept h (record old { tables = new.tables })
refused_files h why old new dropped is = record {
  all = is.all;
  edits = is.edits;
  given = is.given;
  served = λ p listed recorded kept. is.served p listed recorded (dropped_none why old new dropped p.meta.number p.table.bytes kept);
}

-- ---- an opening

-- a table that is still there
retained_by : (needed : ℕ → Bool) (kept : TableMap) (n : ℕ) (bytes : List ℕ) (t : Bool) → needed n ≡ t → cond (needed n) (get kept n) None ≡ Some bytes → get kept n ≡ Some bytes
retained_by needed kept n bytes true is found = sym (ap (λ (b : Bool). cond b (get kept n) None) is) ∙ found
retained_by needed kept n bytes false is found = let none = ap (λ (b : Bool). cond b (get kept n) None) is in absurd cc

module _ (h : History) (vault : VaultValue) (limits : Limits) (c : CoordValue) (opens : OpensCoord vault limits c) (is : AreFilesKept h vault) where
  abbrev before : VersionValue
  before = manifest_version vault.edits

  abbrev set : VersionSetValue
  set = opens.versions

  served_is : c.served ≡ set.served
  served_is = ap (λ (x : CoordValue). x.served) opens.is

  files_are : set.served.version.files ≡ before.files
  files_are = ap (λ (v : VersionValue). v.files) opens.opens.version ∙ append-nil (files_without [] before.files) ∙ without-none before.files

  next_is : set.served.version.next_file ≡ before.next_file
  next_is = ap (λ (v : VersionValue). v.next_file) opens.opens.version

  -- the version before it is sound too
  sound_before : IsVersion before
  sound_before =
      let now = opens.version in
      let number = ap (λ (v : VersionValue). v.number) opens.opens.version in
      let epoch = ap (λ (v : VersionValue). v.epoch) opens.opens.version in
      let next = next_is in
      record {
        number = omega (arith, now.number, number);
        flushed = subst (λ (v : VersionValue). v.flushed < 2 ^ 56) opens.opens.version now.flushed;
        epoch = omega (arith, now.epoch, epoch);
        some_file = omega (arith, now.some_file, next);
        next_file = omega (arith, now.next_file, next);
        files = subst (λ (fs : List FileMeta). (f : FileMeta) → IsIn f fs → IsFile f) files_are now.files;
        below = λ f m. subst (λ (n : ℕ). f.number < n) next (now.below f (subst (λ (fs : List FileMeta). IsIn f fs) (sym files_are) m));
        rising = subst FileNumbersRise files_are now.rising;
        disjoint = subst (λ (fs : List FileMeta). has_overlap fs ≡ false) files_are now.disjoint;
      }

  spelled : IsSpelledEdit (edit (epoch_edit before)) (epoch_edit before)
  spelled =
      let number = ap (λ (v : VersionValue). v.number) opens.opens.version in
      let epoch = ap (λ (v : VersionValue). v.epoch) opens.opens.version in
      let now = opens.version in
      record { sound = epoch_sound before sound_before (omega (arith, now.number, number)) (omega (arith, now.epoch, epoch)); spelled = refl }

  -- the history with the edit of the opening
  abbrev pub with_epoch : History
  with_epoch = record h { edits = h.edits ++ epoch_edit before ∷ [] }

  pushed : c.stored.edits ≡ vault.edits ++ edit (epoch_edit before) ∷ []
  pushed = ap (λ (x : CoordValue). x.stored.edits) opens.is ∙ ap (λ (v : VaultValue). v.edits) opens.opens.stored

  version_is : c.served.version ≡ after_apply before (epoch_edit before)
  version_is = ap (λ (x : CoordValue). x.served.version) opens.is ∙ opens.opens.version

  edits_are : with_epoch.edits ≡ read_edits c.stored.edits
  edits_are = ap (λ (es : List Edit). es ++ epoch_edit before ∷ []) is.edits ∙ sym (read_edits-push vault.edits (edit (epoch_edit before)) (epoch_edit before) spelled) ∙ ap read_edits (sym pushed)

  pub opened_grows : Grows h with_epoch
  opened_grows = record {
    files = λ p m. m;
    jobs = λ j m. m;
    one = is.all.one;
    edits = logs_one h with_epoch vault.edits c.stored.edits (edit (epoch_edit before)) (epoch_edit before) before c.served.version opens.opens.folds spelled pushed version_is is.edits edits_are;
  }

  pub opened_version : versions_in with_epoch ≡ versions_in h ++ c.served.version ∷ []
  opened_version = grown_versions h with_epoch vault.edits c.stored.edits (edit (epoch_edit before)) (epoch_edit before) before c.served.version opens.opens.folds spelled pushed version_is is.edits edits_are

  kept_before : (p : Placed) → IsIn p set.served.places → get vault.tables p.meta.number ≡ Some p.table.bytes
  kept_before p m =
      let needed = is_live_file before.files [] in
      let n = p.meta.number in
      let found : cond (needed n) (get vault.tables n) None ≡ Some p.table.bytes = sym (get-retain_keys vault.tables needed n (λ x tied. ap needed (sym (nat_cmp-IsAntisymmetric n x tied)))) ∙ ap (λ (v : VaultValue). get v.tables n) (sym opens.opens.stored) ∙ opens.set.kept.listed p m in
      retained_by needed vault.tables n p.table.bytes (needed n) refl found

  opened_place : (p : Placed) → IsIn p set.served.places → IsIn p h.files
  opened_place p m =
      is.served p (subst (λ (fs : List FileMeta). IsIn p.meta fs) files_are (file_of set.served opens.version opens.served p m)) (opens.served.recorded p m) (kept_before p m)

  opened_file : (f : FileMeta) → IsIn f set.served.version.files → IsFileOf h f
  opened_file f m = let p = place_of set.served opens.version opens.served f m in (p.0, opened_place p.0 p.1, sym p.2)

  current_file : (f : FileMeta) → IsIn f c.served.version.files → IsFileOf with_epoch f
  current_file f m = opened_file f (subst (λ (x : ServedValue). IsIn f x.version.files) served_is m)

  -- WHAT A VAULT HAS OF A HISTORY, THE COORDINATOR HAS THAT IS OPENED OVER IT.
  pub opened_files : AreFiles with_epoch c
  opened_files = record {
    all = record {
      one = is.all.one;
      recorded = is.all.recorded;
      apply = subst (Apply first_version) (sym (edits_are ∙ ap (λ (x : CoordValue). read_edits x.stored.edits) opens.is)) opens.set.folds.apply;
      listed = listed_on h with_epoch vault.edits c.stored.edits (edit (epoch_edit before)) (epoch_edit before) before c.served.version opens.opens.folds spelled pushed version_is is.edits edits_are opened_grows is.all current_file;
    };
    edits = edits_are;
    given = λ p m. let low = is.given p m in let next = next_is in subst (λ (s : ServedValue). p.meta.number < s.version.next_file) (sym served_is) (omega (arith, low, next));
    served = λ p m. opened_place p (subst (λ (s : ServedValue). IsIn p s.places) served_is m);
    retired = λ r m. absurd (subst (λ (rs : List Retired). IsIn r rs) (ap (λ (x : CoordValue). x.retired) opens.is ∙ opens.opens.retired) m);
  }
