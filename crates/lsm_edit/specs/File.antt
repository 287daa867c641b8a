-- File records: what they may say, and how they are encoded (LevelDB, FileMetaData).
use Rattle.std.specs.Prelude.{◌≡◌, ℕ, ◌<◌, ◌≤◌, ◌^◌, ◌-◌, Bool, true, not, ◌&&◌, ◌||◌, List, ◌++◌, length, min, Result, Ok, Err, nat_eq, nat_lt, if◌then◌else◌}
use Rattle.std.specs.Int.{w8, w32, w64, to_be_bytes}
use Rattle.std.specs.List.{list_any}
use Rattle.std.specs.Str.{bytes_eq}
use Rattle.lsm_key.specs.declared.limits.TheConstants.{MAX_KEY_BYTES, MAX_NUMBER, MAX_TABLE_BYTES, MAX_LEVEL}
use Rattle.lsm_key.specs.Order.{key_le}
use Rattle.lsm_key.specs.KeyRanges.{ranges_meet}
use Rattle.lsm_key.specs.Spelling.{key, IsKey}
use Rattle.lsm_key.specs.Reading.{◌>>=◌, ranged_number_at, key_at}
use Rattle.lsm_edit.specs.declared.file.FileMeta.{FileMeta}
use Rattle.lsm_edit.specs.declared.file.FileBounds.{FileBounds}

-- two keys, the first not after the second
pub record AreKeys (lo hi : List ℕ) : Type 0 where
  pub first : IsKey MAX_KEY_BYTES lo
  pub last : IsKey MAX_KEY_BYTES hi
  pub ordered : key_le lo hi ≡ true

-- a file record within its limits: of a table with an entry or more, whose range is not empty
pub record IsFile (f : FileMeta) : Type 0 where
  pub first : 1 ≤ f.number
  pub last : f.number ≤ MAX_NUMBER
  pub level : f.level ≤ MAX_LEVEL
  pub smallest : IsKey MAX_KEY_BYTES f.smallest
  pub largest : IsKey MAX_KEY_BYTES f.largest
  pub ordered : key_le f.smallest f.largest ≡ true
  pub some_bytes : 1 ≤ f.bytes
  pub most_bytes : f.bytes ≤ MAX_TABLE_BYTES
  pub some_entries : 1 ≤ f.entries
  pub most_entries : f.entries < 2 ^ 32

-- two records say the same
abbrev pub same_file : FileMeta → FileMeta → Bool
same_file f g = nat_eq f.number g.number && (nat_eq f.level g.level && (bytes_eq f.smallest g.smallest && (bytes_eq f.largest g.largest && (nat_eq f.bytes g.bytes && nat_eq f.entries g.entries))))

-- the bytes of a file record
abbrev pub file : FileMeta → List ℕ
file f = to_be_bytes w64 f.number ++ to_be_bytes w8 f.level ++ key f.smallest ++ key f.largest ++ to_be_bytes w32 f.bytes ++ to_be_bytes w32 f.entries

-- how many bytes, as far as a count of eight bytes goes
abbrev pub size : List ℕ → ℕ
size bytes = min (length bytes) (2 ^ 64 - 1)

-- a file of a level from 1 up whose range meets this one of the same level
abbrev pub meets_file : ℕ → List ℕ → List ℕ → FileMeta → Bool
meets_file level smallest largest f = nat_eq f.level level && (nat_lt 0 f.level && ranges_meet f.smallest f.largest smallest largest)

-- a record within bounds that meets no earlier file, with keys of at most limit bytes; the fault is short if the bytes end inside a field, and bad if a field breaks its rule
unfoldable pub file_at : {F : Type 0} → ℕ → F → F → FileBounds → List FileMeta → List ℕ → Result (FileMeta × List ℕ) F
file_at limit short bad within earlier bytes = do
  number ← ranged_number_at short bad w64 within.least within.most bytes
  level ← ranged_number_at short bad w8 within.lowest within.deepest number.1
  smallest ← key_at limit short bad level.1
  largest ← key_at limit short bad smallest.1
  if not (key_le smallest.0 largest.0) || list_any (meets_file level.0 smallest.0 largest.0) earlier then Err bad else
      (do
        size ← ranged_number_at short bad w32 1 MAX_TABLE_BYTES largest.1
        entries ← ranged_number_at short bad w32 1 4294967295 size.1
        Ok (record { number = number.0; level = level.0; smallest = smallest.0; largest = largest.0; bytes = size.0; entries = entries.0 }, entries.1))
