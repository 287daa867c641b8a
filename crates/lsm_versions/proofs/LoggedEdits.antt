-- A version set after one edit more, and after one that was refused.
use Rattle.std.proofs.Common.{◌≡◌, ℕ, List, None, refl}
use Rattle.lsm_table.specs.Tables.{Opened}
use Rattle.lsm_edit.specs.declared.edit.Edit.{Edit}
use Rattle.lsm_edit.specs.Edit.{IsEdit, IsSpelledEdit, edit as spelling}
use Rattle.lsm_edit.specs.Served.{IsServed}
use Rattle.lsm_edit.specs.Version.{IsVersion, apply_fault}
use Rattle.lsm_vault.specs.Stored.{TableMap}
use Rattle.lsm_versions.specs.Kept.{StaysBelow}
use Rattle.lsm_versions.specs.Manifest.{IsVersionSet, VersionSetValue, after_logging}
use Rattle.lsm_versions.specs.Retention.{NumbersRise, retired_after}
use Rattle.lsm_versions.proofs.KeptTables.{kept_after, kept_still}
use Rattle.lsm_versions.proofs.ManifestReplay.{Folds-push}
use Rattle.lsm_versions.proofs.RetiredFiles.{retired-push, rising_after}

module _ (v : VersionSetValue) (e : Edit) (is : IsVersionSet v) (sound : IsServed v.served × IsVersion v.served.version) (edit_is : IsEdit e) (fits : apply_fault v.served.version e ≡ None) where
  spelled : IsSpelledEdit (spelling e) e
  spelled = record { sound = edit_is; spelled = refl }

  -- tables under new numbers may be put, and the device may fail
  pub still_set : (tables : TableMap) (failures : ℕ) → StaysBelow v.served.version.next_file v.stored.tables tables → IsVersionSet (record v { stored = record v.stored { tables = tables }; failures = failures })
  still_set tables failures below = record {
    folds = is.folds;
    retired = is.retired;
    kept = kept_still v.stored.edits v.served v.retired v.floor (spelling e) e is.folds is.retired sound.0 sound.1 spelled fits v.stored.tables tables is.kept below;
  }

  pub logged_set : (tables : List Opened) (failures : ℕ) → IsVersionSet (record (after_logging v e tables) { failures = failures })
  logged_set tables failures = record {
    folds = Folds-push v.stored.edits v.served.version (spelling e) e is.folds spelled fits;
    retired = retired-push v.stored.edits v.served v.retired v.floor (spelling e) e is.folds is.retired sound.0 sound.1 spelled fits;
    kept = kept_after v.stored.edits v.served v.retired v.floor (spelling e) e is.folds is.retired sound.0 sound.1 spelled fits v.stored.tables tables edit_is is.kept;
  }

  pub rising_set : NumbersRise (retired_after v.retired v.served e.removed)
  rising_set = rising_after v.stored.edits v.served v.retired v.floor (spelling e) e is.folds is.retired sound.0 sound.1 spelled fits
