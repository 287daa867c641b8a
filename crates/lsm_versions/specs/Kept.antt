-- The tables of a vault, and those that a store needs of it (LevelDB: a file number names a table file).
use Rattle.std.specs.Prelude.{◌≡◌, ℕ, ◌<◌, ◌⊎◌, List, [], ◌∷◌, None, Some}
use Rattle.std.specs.FinMap as map
use Rattle.lsm_key.specs.Sets.{IsIn}
use Rattle.lsm_edit.specs.declared.file.FileMeta.{FileMeta}
use Rattle.lsm_edit.specs.declared.served.Placed.{Placed}
use Rattle.lsm_vault.specs.Stored.{TableMap}
use Rattle.lsm_versions.specs.declared.retired.Retired.{Retired}

-- each table is put under its file's number
abbrev pub put_tables : TableMap → List Placed → TableMap
put_tables tables [] = tables
put_tables tables (p ∷ ps) = put_tables (map.insert tables p.meta.number p.table.bytes) ps

-- the same tables, but for numbers that no file has been given yet
abbrev pub StaysBelow : ℕ → TableMap → TableMap → Type 0
StaysBelow next old new = (n : ℕ) → n < next → map.get new n ≡ map.get old n

-- the same tables, but for the numbers of these files
abbrev pub StaysApart : List FileMeta → TableMap → TableMap → Type 0
StaysApart files old new = (n : ℕ) → ((f : FileMeta) → IsIn f files → f.number ≡ n → ⊥) → map.get new n ≡ map.get old n

-- each number has the table that it had, or one that may be put under it
abbrev pub MayHavePutSome : (ℕ → List ℕ → Type 0) → TableMap → TableMap → Type 0
MayHavePutSome MayPut old new = (n : ℕ) → (map.get new n ≡ map.get old n) ⊎ ((bytes : List ℕ) × MayPut n bytes × (map.get new n ≡ Some bytes))

-- one of these files has the number, and its table the bytes
abbrev pub IsTableOf : List Placed → ℕ → List ℕ → Type 0
IsTableOf placed n bytes = (p : Placed) × IsIn p placed × (p.meta.number ≡ n) × (p.table.bytes ≡ bytes)

-- the same tables, but that some of these numbers may have none
abbrev pub MayHaveRemoved : List ℕ → TableMap → TableMap → Type 0
MayHaveRemoved numbers old new = (n : ℕ) → (map.get new n ≡ map.get old n) ⊎ (IsIn n numbers × (map.get new n ≡ None))

-- the table of each file of the version, and of each retired one, is kept
pub record AreKept (tables : TableMap) (places : List Placed) (retired : List Retired) : Type 0 where
  pub listed : (p : Placed) → IsIn p places → map.get tables p.meta.number ≡ Some p.table.bytes
  pub removed : (r : Retired) → IsIn r retired → map.get tables r.number ≡ Some r.bytes
