-- What is put into a vault before an edit is logged: bytes of tables, by number (LevelDB, db_impl.cc: WriteLevel0Table, InstallCompactionResults).
use Rattle.std.specs.Prelude.{ℕ, List, [], ◌∷◌, map}
use Rattle.std.specs.FinMap as fin
use Rattle.lsm_key.specs.Sets.{IsIn}
use Rattle.lsm_edit.specs.declared.served.Placed.{Placed}
use Rattle.lsm_vault.specs.Stored.{TableMap}
use Rattle.lsm_versions.specs.declared.putting.NumberedTable.{NumberedTable}

-- the bytes of each file's table, with its number
abbrev pub numbered_tables : List Placed → List NumberedTable
numbered_tables placed = map (λ p. record { number = p.meta.number; bytes = p.table.bytes }) placed

-- each is put under its number
abbrev pub put_numbered : TableMap → List NumberedTable → TableMap
put_numbered tables [] = tables
put_numbered tables (t ∷ ts) = put_numbered (fin.insert tables t.number t.bytes) ts

-- one of them has the number and the bytes
abbrev pub IsTableToPut : List NumberedTable → ℕ → List ℕ → Type 0
IsTableToPut tables n bytes = IsIn (record { number = n; bytes = bytes }) tables
