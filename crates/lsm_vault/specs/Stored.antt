-- What a vault has stored (LevelDB, implementation notes: the manifest, the table files by number, and the log).
use Rattle.std.specs.Prelude.{ℕ, List, [], refl}
use Rattle.std.specs.Ordering.{nat_cmp}
use Rattle.std.specs.FinMap as map
use Rattle.std.specs.Coded.{Coded, code_by, coded_ℕ, coded_list, coded×}

-- the bytes of tables, by file number
abbrev pub TableMap : Type 0
TableMap = map.FinMap nat_cmp (List ℕ)

-- maps of tables are told apart as the library's maps are
abbrev pub table_map_code : Coded TableMap
table_map_code = map.code coded_ℕ (coded_list coded_ℕ)

-- what outlives a restart
pub record VaultValue : Type 0 where
  pub edits : List (List ℕ)  -- in the order in which they were appended
  pub tables : TableMap
  pub log : List (List ℕ)  -- the records, in the order in which they were appended

-- such values are told apart by their parts
abbrev pub vault_code : Coded VaultValue
vault_code = code_by (List (List ℕ) × (TableMap × List (List ℕ))) (coded× (coded_list (coded_list coded_ℕ)) (coded× table_map_code (coded_list (coded_list coded_ℕ)))) (λ v. (v.edits, (v.tables, v.log))) (λ p. record { edits = p.0; tables = p.1.0; log = p.1.1 }) (λ _. refl)

-- no edit, no table and no record of a log
abbrev pub empty_vault : VaultValue
empty_vault = record { edits = []; tables = map.empty; log = [] }
