-- What is wrong with a log makes it bad; and where nothing is damaged, no opening is refused for it.
use Rattle.std.proofs.Common.{◌≡◌, ℕ, List, ap, inl, inr, subst}
use Rattle.std.specs.Prelude.{IsErr, is_err}
use Rattle.lsm_edit.specs.declared.file.FileMeta.{FileMeta}
use Rattle.lsm_edit.specs.declared.log_record.LogRecord.{LogRecord}
use Rattle.lsm_edit.specs.LogRecord.{read_record}
use Rattle.lsm_edit.specs.Version.{VersionValue}
use Rattle.lsm_edit.specs.Log.{BadLog as IsBadLog, BadRecords, begins_late, ends_early, freezes_elsewhere, freezes_twice, is_heavy, leaves_gap, read_records, straddles}
use Rattle.lsm_vault.specs.Stored.{TableMap, VaultValue}
use Rattle.lsm_versions.specs.declared.error.OpenError.TheVariants.{BadManifest, MissingTable, BadLog}
use Rattle.lsm_versions.specs.Manifest.{Folds}
use Rattle.lsm_versions.specs.Opening.{HaveTables, IsLacking, OpenRefuses, manifest_version}
use Rattle.lsm_versions.proofs.ReplayedEdits.{folds_once}
use Rattle.lsm_inspect.specs.declared.damage.LogDamage.{LogDamage}
use Rattle.lsm_inspect.specs.declared.damage.LogDamage.TheVariants as damage
use Rattle.lsm_inspect.specs.Log.{IsLogDamage, IsRecordsDamage, IsTextDamage}

-- ---- what is wrong with a log

text_bad : (text : List ℕ) (d : LogDamage) → IsTextDamage text d → IsErr (read_record text)
text_bad text (damage.NoRecord fault) h = ap is_err h
text_bad text damage.BeginsLate h = absurd h
text_bad text (damage.LeavesGap last next) h = absurd h
text_bad text (damage.Straddles begin) h = absurd h
text_bad text (damage.FreezesElsewhere last place) h = absurd h
text_bad text damage.FreezesTwice h = absurd h
text_bad text (damage.EndsEarly last) h = absurd h
text_bad text damage.IsHeavy h = absurd h

records_bad : (flushed : ℕ) (records : List LogRecord) (d : LogDamage) → IsRecordsDamage flushed records d → BadRecords flushed records
records_bad flushed records (damage.NoRecord fault) h = absurd h
records_bad flushed records damage.BeginsLate h = begins_late h
records_bad flushed records (damage.LeavesGap last next) h = leaves_gap h.0
records_bad flushed records (damage.Straddles begin) h = straddles h.0
records_bad flushed records (damage.FreezesElsewhere last place) h = freezes_elsewhere h.0
records_bad flushed records damage.FreezesTwice h = freezes_twice h
records_bad flushed records (damage.EndsEarly last) h = ends_early (last, h.0, h.1)
records_bad flushed records damage.IsHeavy h = is_heavy h

pub damage_bad : (flushed : ℕ) (texts : List (List ℕ)) (d : LogDamage) → IsLogDamage flushed texts d → IsBadLog flushed texts
damage_bad flushed texts d (inl t) = inl (t.0, t.1, text_bad t.0 d t.2)
damage_bad flushed texts d (inr h) = inr (records_bad flushed (read_records texts) d h)

-- ---- what is whole

lacks_none : (tables : TableMap) (files : List FileMeta) → HaveTables tables files → IsLacking tables files → ⊥
lacks_none tables files have lacks = (let has = have lacks.0 lacks.1 in lacks.2 has.0 has.1 has.2)

module _ (vault : VaultValue) (v : VersionValue) (folds : Folds vault.edits v) where
  version_is : manifest_version vault.edits ≡ v
  version_is = folds.makes

  pub edits_whole : OpenRefuses vault BadManifest → ⊥
  edits_whole refuses = refuses (folds_once vault.edits v folds)

  pub tables_whole : HaveTables vault.tables v.files → OpenRefuses vault MissingTable → ⊥
  tables_whole have refuses = lacks_none vault.tables v.files have (subst (λ (w : VersionValue). IsLacking vault.tables w.files) version_is refuses.1)

  pub log_whole : (IsBadLog v.flushed vault.log → ⊥) → OpenRefuses vault BadLog → ⊥
  log_whole good refuses = good (subst (λ (w : VersionValue). IsBadLog w.flushed vault.log) version_is refuses.2)
