-- Whether the tables of a store are what the records of its files say (RocksDB: DB::VerifyChecksum; LevelDB: leveldbutil dump).
use Rattle.std.specs.Prelude.{◌≡◌, ℕ, ◌⊎◌, true, false, not, List, [], ◌∷◌, Option, None, Some, Err, length, filter}
use Rattle.std.specs.List.{list_any}
use Rattle.std.specs.FinMap as map
use Rattle.lsm_key.specs.Sets.{is_among}
use Rattle.lsm_key.specs.declared.refused.Refused.{Refused}
use Rattle.lsm_key.specs.declared.refused.Refused.TheVariants as refused
use Rattle.lsm_table.specs.Tables.{IsTable, Opened, smallest_key, largest_key}
use Rattle.lsm_table.specs.TableReading.{read_table}
use Rattle.lsm_edit.specs.declared.file.FileMeta.{FileMeta}
use Rattle.lsm_edit.specs.Served.{IsAsRecorded}
use Rattle.lsm_edit.specs.Version.{VersionValue, has_number}
use Rattle.lsm_vault.specs.Stored.{TableMap}
use Rattle.lsm_versions.specs.Manifest.{Folds}
use Rattle.lsm_versions.specs.Opening.{manifest_version}
use Rattle.lsm_inspect.specs.declared.error.InspectError.{InspectError}
use Rattle.lsm_inspect.specs.declared.error.InspectError.TheVariants.{OutOfMemory, BadManifest, Write}
use Rattle.lsm_inspect.specs.declared.damage.Damage.{Damage}
use Rattle.lsm_inspect.specs.declared.damage.Damage.TheVariants.{NotWhole, Missing, WrongLength, NotATable, WrongCount, WrongKeys}
use Rattle.lsm_inspect.specs.declared.damage.Finding.{Finding}

-- the file's table is there, as its record says
abbrev pub HasRecordedTable : TableMap → FileMeta → Type 0
HasRecordedTable kept f = (t : Opened) × (map.get kept f.number ≡ Some t.bytes) × IsAsRecorded f t

-- and no damaged file of the folder has its number
pub record IsWhole (kept : TableMap) (damaged : List ℕ) (f : FileMeta) : Type 0 where
  pub table : HasRecordedTable kept f
  pub undamaged : is_among damaged f.number ≡ false

-- in this, and in nothing before it, a table is not as the file's record says: its length, its count, its keys
abbrev pub IsMismatch : FileMeta → Opened → Damage → Type 0
IsMismatch f t (WrongLength recorded found) = (recorded ≡ f.bytes) × (found ≡ length t.bytes) × (recorded ≡ found → ⊥)
IsMismatch f t (WrongCount recorded found) = (f.bytes ≡ length t.bytes) × (recorded ≡ f.entries) × (found ≡ length t.entries) × (recorded ≡ found → ⊥)
IsMismatch f t WrongKeys = (f.bytes ≡ length t.bytes) × (f.entries ≡ length t.entries) × (f.smallest ≡ smallest_key t.entries → f.largest ≡ largest_key t.entries → ⊥)
IsMismatch f t NotWhole = ⊥
IsMismatch f t Missing = ⊥
IsMismatch f t (NotATable fault) = ⊥

-- the table under the file's number is not as its record says
pub record HasMismatch (kept : TableMap) (f : FileMeta) (d : Damage) : Type 0 where
  pub opened : Opened
  pub there : map.get kept f.number ≡ Some opened.bytes
  pub table : IsTable opened.bytes opened.entries
  pub mismatch : IsMismatch f opened d

-- this is wrong with the table of a file that is not damaged
abbrev pub IsTableDamage : TableMap → FileMeta → Damage → Type 0
IsTableDamage kept f NotWhole = ⊥
IsTableDamage kept f Missing = map.get kept f.number ≡ None
IsTableDamage kept f (NotATable fault) = (bytes : List ℕ) × (map.get kept f.number ≡ Some bytes) × (read_table bytes ≡ Err fault)
IsTableDamage kept f (WrongLength recorded found) = HasMismatch kept f (WrongLength recorded found)
IsTableDamage kept f (WrongCount recorded found) = HasMismatch kept f (WrongCount recorded found)
IsTableDamage kept f WrongKeys = HasMismatch kept f WrongKeys

-- this is what is wrong with the file's table, and no other is: that the file is damaged comes before all
abbrev pub IsDamage : TableMap → List ℕ → FileMeta → Damage → Type 0
IsDamage kept damaged f d = ((is_among damaged f.number ≡ true) × (d ≡ NotWhole)) ⊎ ((is_among damaged f.number ≡ false) × IsTableDamage kept f d)

-- a refusal for what is wrong with the file's table, or since memory ran out
abbrev pub RefusesTable : TableMap → List ℕ → FileMeta → Refused Damage → Type 0
RefusesTable kept damaged f refused.OutOfMemory = Unit {0}
RefusesTable kept damaged f (refused.Fault d) = IsDamage kept damaged f d

-- the finding names the file, and is true of it
pub record IsFinding (kept : TableMap) (damaged : List ℕ) (f : FileMeta) (x : Finding) : Type 0 where
  pub file : x.file ≡ f.number
  pub damage : IsDamage kept damaged f x.damage

-- the findings of the files, in the files' order: none of a whole one, one of another
abbrev pub Finds : TableMap → List ℕ → List FileMeta → List Finding → Type 0
Finds kept damaged [] [] = Unit {0}
Finds kept damaged [] (x ∷ found) = ⊥
Finds kept damaged (f ∷ files) [] = IsWhole kept damaged f × Finds kept damaged files []
Finds kept damaged (f ∷ files) (x ∷ found) = (IsWhole kept damaged f × Finds kept damaged files (x ∷ found)) ⊎ (IsFinding kept damaged f x × Finds kept damaged files found)

-- those of the numbers that no file has
abbrev pub unneeded_numbers : List FileMeta → List ℕ → List ℕ
unneeded_numbers files numbers = filter (λ n. not (list_any (has_number n) files)) numbers

-- the item, if there is one
abbrev pub items_of : {X : Type 0} → Option X → List X
items_of None = []
items_of (Some x) = x ∷ []

-- a check of these edits is refused, for this reason
abbrev pub CheckRefuses : List (List ℕ) → InspectError → Type 0
CheckRefuses texts BadManifest = Folds texts (manifest_version texts) → ⊥
CheckRefuses texts OutOfMemory = Unit {0}
CheckRefuses texts (Write why) = ⊥

-- entries that are known are not written, for this reason
abbrev pub IsWriteError : InspectError → Type 0
IsWriteError BadManifest = ⊥
IsWriteError OutOfMemory = Unit {0}
IsWriteError (Write why) = Unit {0}

-- a dump of these edits is refused, for this reason: its lines are not written only if the edits make a version
abbrev pub DumpRefuses : List (List ℕ) → InspectError → Type 0
DumpRefuses texts (Write why) = (v : VersionValue) × Folds texts v
DumpRefuses texts BadManifest = CheckRefuses texts BadManifest
DumpRefuses texts OutOfMemory = CheckRefuses texts OutOfMemory
