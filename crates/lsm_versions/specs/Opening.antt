-- How a store is opened over what a vault has (LevelDB, db_impl.cc: DBImpl::Recover, RemoveObsoleteFiles; version_set.cc: VersionSet::Recover).
use Rattle.std.specs.Prelude.{◌≡◌, ℕ, ◌<◌, ◌≤◌, ◌⊎◌, ◌++◌, ◌∷◌, [], Bool, false, ◌||◌, List, None, Some, filter, is_some, not}
use Rattle.std.specs.List.{list_any}
use Rattle.std.specs.FinMap as map
use Rattle.lsm_key.specs.declared.limits.TheConstants.{MAX_NUMBER}
use Rattle.lsm_key.specs.Sets.{IsIn}
use Rattle.lsm_table.specs.Tables.{Opened}
use Rattle.lsm_edit.specs.declared.file.FileMeta.{FileMeta}
use Rattle.lsm_edit.specs.declared.served.Placed.{Placed}
use Rattle.lsm_edit.specs.Edit.{edit}
use Rattle.lsm_edit.specs.Edits.{after_edits}
use Rattle.lsm_edit.specs.Log.{BadLog as IsBadLog}
use Rattle.lsm_edit.specs.Next.{epoch_edit}
use Rattle.lsm_edit.specs.Served.{IsAsRecorded, ServedValue, after_advance}
use Rattle.lsm_edit.specs.Version.{VersionValue, after_apply, first_version, has_number}
use Rattle.lsm_vault.specs.declared.error.VaultError.{VaultError}
use Rattle.lsm_vault.specs.declared.error.VaultError.TheVariants as fault
use Rattle.lsm_vault.specs.Stored.{TableMap, VaultValue}
use Rattle.lsm_versions.specs.declared.error.OpenError.{OpenError}
use Rattle.lsm_versions.specs.declared.error.OpenError.TheVariants.{OutOfMemory, BadManifest, MissingTable, BadLog, Device, NumbersExhausted}
use Rattle.lsm_versions.specs.declared.retired.Retired.{Retired}
use Rattle.lsm_versions.specs.Manifest.{Folds, VersionSetValue, read_edits}
use Rattle.lsm_versions.specs.Retention.{retired_at}

-- ---- which tables stay

-- one of the files or of the retired ones has the number
abbrev pub is_live_file : List FileMeta → List Retired → ℕ → Bool
is_live_file files retired n = list_any (has_number n) files || is_some (retired_at retired n)

-- the table of this number is a live file's
abbrev pub is_live : VersionSetValue → ℕ → Bool
is_live v n = is_live_file v.served.version.files v.retired n

-- the numbers of all other tables, ascending
abbrev pub obsolete_tables : VersionSetValue → List ℕ
obsolete_tables v = filter (λ n. not (is_live v n)) (map.keys v.stored.tables)

-- the vault has the tables of live files alone
abbrev pub without_obsolete : VersionSetValue → VersionSetValue
without_obsolete v = record v { stored = record v.stored { tables = map.retain_keys v.stored.tables (is_live v) } }

-- the same tables, but that some under other numbers may be gone
abbrev pub MayHaveLost : (ℕ → Bool) → TableMap → TableMap → Type 0
MayHaveLost needed old new = (n : ℕ) → (map.get new n ≡ map.get old n) ⊎ ((needed n ≡ false) × (map.get new n ≡ None))

-- ---- an opening

-- the version that a manifest replays to
abbrev pub manifest_version : List (List ℕ) → VersionValue
manifest_version texts = after_edits first_version (read_edits texts)

-- the table under the file's number is absent or not as its record says
abbrev pub LacksTable : TableMap → FileMeta → Type 0
LacksTable tables file = (t : Opened) → map.get tables file.number ≡ Some t.bytes → IsAsRecorded file t → ⊥

-- one of the files lacks its table
abbrev pub IsLacking : TableMap → List FileMeta → Type 0
IsLacking tables files = (f : FileMeta) × IsIn f files × LacksTable tables f

-- each file has its table, as its record says
abbrev pub HaveTables : TableMap → List FileMeta → Type 0
HaveTables tables files = (f : FileMeta) → IsIn f files → (t : Opened) × (map.get tables f.number ≡ Some t.bytes) × IsAsRecorded f t

-- each place's table is the vault's
abbrev pub ArePlacesKept : TableMap → List Placed → Type 0
ArePlacesKept tables places = (p : Placed) → IsIn p places → map.get tables p.meta.number ≡ Some p.table.bytes

-- the edits replay, and each file of the version that they make has its table
pub record IsRecoverable (vault : VaultValue) : Type 0 where
  pub folds : Folds vault.edits (manifest_version vault.edits)
  pub tables : HaveTables vault.tables (manifest_version vault.edits).files

-- a vault that was read, before the next epoch begins
pub record RecoveredValue : Type 0 where
  pub stored : VaultValue
  pub failures : ℕ  -- how often the vault's device failed

-- there is no next version or no next epoch
abbrev pub AreExhausted : VersionValue → Type 0
AreExhausted v = (MAX_NUMBER ≤ v.number) ⊎ (MAX_NUMBER ≤ v.epoch)

-- a vault is not read, for this reason
abbrev pub RecoverRefuses : VaultValue → OpenError → Type 0
RecoverRefuses vault BadManifest = Folds vault.edits (manifest_version vault.edits) → ⊥
RecoverRefuses vault MissingTable = Folds vault.edits (manifest_version vault.edits) × IsLacking vault.tables (manifest_version vault.edits).files
RecoverRefuses vault BadLog = ⊥
RecoverRefuses vault NumbersExhausted = ⊥
RecoverRefuses vault OutOfMemory = Unit {0}
RecoverRefuses vault Device = Unit {0}

-- A vault is not opened, for this reason. Of a version set alone a bad log is none.
abbrev pub OpenRefuses : VaultValue → OpenError → Type 0
OpenRefuses vault BadManifest = Folds vault.edits (manifest_version vault.edits) → ⊥
OpenRefuses vault MissingTable = Folds vault.edits (manifest_version vault.edits) × IsLacking vault.tables (manifest_version vault.edits).files
OpenRefuses vault BadLog = Folds vault.edits (manifest_version vault.edits) × HaveTables vault.tables (manifest_version vault.edits).files × IsBadLog (manifest_version vault.edits).flushed vault.log
OpenRefuses vault NumbersExhausted = Folds vault.edits (manifest_version vault.edits) × HaveTables vault.tables (manifest_version vault.edits).files × AreExhausted (manifest_version vault.edits)
OpenRefuses vault OutOfMemory = Unit {0}
OpenRefuses vault Device = Unit {0}

-- the reason of a vault
abbrev pub open_error : VaultError → OpenError
open_error fault.OutOfMemory = OutOfMemory
open_error fault.Device = Device

-- the failures counted before and after an opening that is refused: a device failure was counted, and the count never falls
abbrev pub CountsRefusal : OpenError → ℕ → ℕ → Type 0
CountsRefusal Device before after = before < after
CountsRefusal OutOfMemory before after = before ≤ after
CountsRefusal BadManifest before after = before ≤ after
CountsRefusal MissingTable before after = before ≤ after
CountsRefusal BadLog before after = before ≤ after
CountsRefusal NumbersExhausted before after = before ≤ after

-- the manifest replays, and nothing changed but that some tables that no file needs may be gone
pub record MayHaveLostObsolete (old new : VaultValue) : Type 0 where
  pub folds : Folds old.edits (manifest_version old.edits)
  pub rest : new ≡ record old { tables = new.tables }
  pub lost : MayHaveLost (is_live_file (manifest_version old.edits).files []) old.tables new.tables

-- what the vault has before and after it: some tables that no file needs may be gone, if memory ran out or the device failed
abbrev pub MayHaveDropped : OpenError → VaultValue → VaultValue → Type 0
MayHaveDropped OutOfMemory old new = (new ≡ old) ⊎ MayHaveLostObsolete old new
MayHaveDropped Device old new = (new ≡ old) ⊎ MayHaveLostObsolete old new
MayHaveDropped BadManifest old new = new ≡ old
MayHaveDropped MissingTable old new = new ≡ old
MayHaveDropped BadLog old new = new ≡ old
MayHaveDropped NumbersExhausted old new = new ≡ old

-- the version that the edits replay to, with the tables of the vault
pub record Recovers (vault : VaultValue) (s : ServedValue) : Type 0 where
  pub folds : Folds vault.edits s.version
  pub tables : ArePlacesKept vault.tables s.places

-- the next epoch begins, over the tables that are needed alone
pub record IsNextEpoch (old new : VersionSetValue) : Type 0 where
  pub served : new.served ≡ after_advance old.served (epoch_edit old.served.version) []
  pub stored : new.stored ≡ record old.stored { edits = old.stored.edits ++ edit (epoch_edit old.served.version) ∷ []; tables = map.retain_keys old.stored.tables (is_live_file old.served.version.files []) }
  pub floor : new.floor ≡ new.served.version.number
  pub retired : new.retired ≡ []

-- the next epoch of a version does not begin, for this reason
abbrev pub EpochRefused : VersionValue → OpenError → Type 0
EpochRefused v BadManifest = ⊥
EpochRefused v MissingTable = ⊥
EpochRefused v BadLog = ⊥
EpochRefused v NumbersExhausted = AreExhausted v
EpochRefused v OutOfMemory = Unit {0}
EpochRefused v Device = Unit {0}

-- The version set stands at the version after one more edit, of the next epoch, which is the last of the manifest. Its floor is there,
-- and the vault has the tables of its files alone.
pub record Opens (vault : VaultValue) (v : VersionSetValue) : Type 0 where
  pub folds : Folds vault.edits (manifest_version vault.edits)
  pub version : v.served.version ≡ after_apply (manifest_version vault.edits) (epoch_edit (manifest_version vault.edits))
  pub stored : v.stored ≡ record vault { edits = vault.edits ++ edit (epoch_edit (manifest_version vault.edits)) ∷ []; tables = map.retain_keys vault.tables (is_live_file (manifest_version vault.edits).files []) }
  pub floor : v.floor ≡ v.served.version.number
  pub retired : v.retired ≡ []
