-- Bases: whole versions, and how they are encoded (LevelDB, implementation notes: a manifest begins with a snapshot of the version).
use Rattle.std.specs.Prelude.{◌≡◌, ℕ, ◌+◌, ◌-◌, ◌≤◌, ◌<◌, ◌^◌, List, [], ◌∷◌, ◌++◌, length, Result, Ok, Err, ◌==◌, if◌then◌else◌}
use Rattle.std.specs.Int.{w32, w64, to_be_bytes}
use Rattle.lsm_key.specs.declared.limits.TheConstants.{MAX_KEY_BYTES, MAX_NUMBER, MAX_LEVEL}
use Rattle.lsm_key.specs.Reading.{◌>>=◌, ranged_number_at}
use Rattle.lsm_edit.specs.declared.file.FileBounds.{FileBounds}
use Rattle.lsm_edit.specs.declared.file.FileMeta.{FileMeta}
use Rattle.lsm_edit.specs.declared.format.FormatFault.{FormatFault}
use Rattle.lsm_edit.specs.declared.format.FormatFault.TheVariants.{Truncated, BadField, TrailingBytes}
use Rattle.lsm_edit.specs.File.{file_at}
use Rattle.lsm_edit.specs.Edit.{added_bytes, items_at}
use Rattle.lsm_edit.specs.Version.{VersionValue, IsVersion}

-- a version that an opened store had: version 0 and epoch 0 come before the first opening
pub record IsBase (v : VersionValue) : Type 0 where
  pub number : 1 ≤ v.number
  pub epoch : 1 ≤ v.epoch
  pub version : IsVersion v

-- the bytes of a base: its numbers, and its files behind their count
abbrev pub base : VersionValue → List ℕ
base v = to_be_bytes w64 v.number ++ to_be_bytes w64 v.flushed ++ to_be_bytes w64 v.epoch ++ to_be_bytes w64 v.next_file ++ added_bytes v.files

-- the bytes are those of this base; its files are counted in four bytes
pub record IsSpelledBase (bytes : List ℕ) (v : VersionValue) : Type 0 where
  pub sound : IsBase v
  pub few : length v.files < 2 ^ 32
  pub spelled : bytes ≡ base v

-- the files of a version are by number, and no two of one level from 1 up overlap
abbrev pub after_version_file : FileBounds × List FileMeta → FileMeta → FileBounds × List FileMeta
after_version_file from f = (record from.0 { least = f.number + 1 }, from.1 ++ f ∷ [])

-- count files of a version, with keys of at most limit bytes
abbrev pub version_files_at : {F : Type 0} → ℕ → F → F → ℕ → FileBounds × List FileMeta → List ℕ → Result (List FileMeta × List ℕ) F
version_files_at limit short bad count from bytes = items_at (λ from. file_at limit short bad from.0 from.1) after_version_file count from bytes

-- a count, and that many files of a version with this next file number
unfoldable pub listed_at : {F : Type 0} → ℕ → F → F → ℕ → List ℕ → Result (List FileMeta × List ℕ) F
listed_at limit short bad next_file bytes = do
  count ← ranged_number_at short bad w32 0 4294967295 bytes
  version_files_at limit short bad count.0 (record { least = 1; most = next_file - 1; lowest = 0; deepest = MAX_LEVEL }, []) count.1

-- a base from the front, with keys of at most limit bytes
unfoldable pub base_at : {F : Type 0} → ℕ → F → F → List ℕ → Result (VersionValue × List ℕ) F
base_at limit short bad bytes = do
  number ← ranged_number_at short bad w64 1 MAX_NUMBER bytes
  flushed ← ranged_number_at short bad w64 0 (2 ^ 56 - 1) number.1
  epoch ← ranged_number_at short bad w64 1 MAX_NUMBER flushed.1
  next_file ← ranged_number_at short bad w64 1 MAX_NUMBER epoch.1
  files ← listed_at limit short bad next_file.0 next_file.1
  Ok (record { number = number.0; flushed = flushed.0; epoch = epoch.0; next_file = next_file.0; files = files.0 }, files.1)

-- a base, all of the bytes
unfoldable pub read_base : List ℕ → Result VersionValue FormatFault
read_base bytes = do
  v ← base_at MAX_KEY_BYTES Truncated BadField bytes
  if length v.1 == 0 then Ok v.0 else Err TrailingBytes
