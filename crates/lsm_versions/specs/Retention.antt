-- Removed files whose tables are kept while a version from the floor on lists them (LevelDB, version_set.cc: AddLiveFiles; db_impl.cc: RemoveObsoleteFiles).
use Rattle.std.specs.Prelude.{◌≡◌, ℕ, ◌+◌, ◌<◌, ◌≤◌, ◌⊎◌, List, [], ◌∷◌, Option, None, Some, length, map, filter, nat_eq, nat_le, nat_lt, slice_get, if◌then◌else◌}
use Rattle.std.specs.List.{list_any}
use Rattle.std.specs.Option.{option_map, option_or}
use Rattle.lsm_key.specs.Sets.{IsIn}
use Rattle.lsm_table.specs.Tables.{Opened}
use Rattle.lsm_edit.specs.declared.file.FileMeta.{FileMeta}
use Rattle.lsm_edit.specs.declared.served.Placed.{Placed}
use Rattle.lsm_edit.specs.Served.{IsAsRecorded, ServedValue, table_at}
use Rattle.lsm_edit.specs.Version.{VersionValue, has_number}
use Rattle.lsm_versions.specs.declared.retired.Retired.{Retired}

-- the bytes of a retired file
abbrev pub retired_at : List Retired → ℕ → Option (List ℕ)
retired_at [] n = None
retired_at (r ∷ rs) n = if nat_eq r.number n then Some r.bytes else retired_at rs n

-- the bytes of a file of the current version, or of a retired one
abbrev pub bytes_at : List Placed → List Retired → ℕ → Option (List ℕ)
bytes_at places retired n = option_or (option_map (λ (t : Opened). t.bytes) (table_at places n)) (retired_at retired n)

-- ---- how files retire, and how they go

-- a file of the version of this number, which is the last that lists it
abbrev pub retire : ℕ → Placed → Retired
retire until p = record { number = p.meta.number; bytes = p.table.bytes; until = until }

-- the files of these numbers, with their tables
abbrev pub retired_by : ServedValue → List ℕ → List Retired
retired_by s removed = map (retire s.version.number) (filter (λ p. list_any (λ n. has_number n p.meta) removed) s.places)

-- inserted before the first of a greater number
abbrev pub put_by_number : Retired → List Retired → List Retired
put_by_number r [] = r ∷ []
put_by_number r (x ∷ xs) = if nat_lt r.number x.number then r ∷ x ∷ xs else x ∷ put_by_number r xs

-- files inserted among others
abbrev pub put_each : List Retired → List Retired → List Retired
put_each [] xs = xs
put_each (r ∷ rs) xs = put_by_number r (put_each rs xs)

-- the next version lacks the files of these numbers
abbrev pub retired_after : List Retired → ServedValue → List ℕ → List Retired
retired_after retired s removed = put_each (retired_by s removed) retired

-- those that a version from the floor on lists
abbrev pub kept_from : ℕ → List Retired → List Retired
kept_from floor retired = filter (λ r. nat_le floor r.until) retired

-- ---- which files are retired

-- the version lists a file of this number
abbrev pub IsListed : VersionValue → ℕ → Type 0
IsListed v n = (f : FileMeta) × IsIn f v.files × (f.number ≡ n)

-- the version of this place, by number from 0, lists a file of this number
abbrev pub ListsFile : List VersionValue → ℕ → ℕ → Type 0
ListsFile versions k n = (v : VersionValue) × (slice_get versions k ≡ Some v) × IsListed v n

-- the file is as its last version recorded it; the versions after that one, of which there are some, lack it
pub record IsRetired (versions : List VersionValue) (r : Retired) : Type 0 where
  pub version : VersionValue
  pub at : slice_get versions r.until ≡ Some version
  pub file : FileMeta
  pub listed : IsIn file version.files
  pub named : file.number ≡ r.number
  pub table : Opened
  pub bytes : table.bytes ≡ r.bytes
  pub recorded : IsAsRecorded file table
  pub past : r.until + 1 < length versions
  pub last : (k : ℕ) → r.until < k → ListsFile versions k r.number → ⊥

-- numbers rise from file to file
abbrev pub NumbersRise : List Retired → Type 0
NumbersRise [] = Unit {0}
NumbersRise (r ∷ rs) = ((x : Retired) → IsIn x rs → r.number < x.number) × NumbersRise rs

-- the retired files, by number, are exactly those that a version from the floor on lists and the current one lacks
pub record AreRetired (versions : List VersionValue) (current : VersionValue) (retired : List Retired) (floor : ℕ) : Type 0 where
  pub rising : NumbersRise retired
  pub low : floor ≤ current.number
  pub each : (r : Retired) → IsIn r retired → IsRetired versions r
  pub served : (r : Retired) → IsIn r retired → floor ≤ r.until
  pub whole : (k n : ℕ) → floor ≤ k → ListsFile versions k n → IsListed current n ⊎ ((r : Retired) × IsIn r retired × (r.number ≡ n))
