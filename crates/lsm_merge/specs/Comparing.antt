-- Comparing the entries of tables (LevelDB, format.h, InternalKey; the passes of the code).
use Rattle.std.specs.Prelude.{Bool, ◌&&◌, List, nat_eq, ⊤}
use Rattle.std.specs.List.{list_any}
use Rattle.lsm_key.specs.declared.entry.Entry.{Entry}
use Rattle.lsm_key.specs.declared.entry.InternalKey.{InternalKey}
use Rattle.lsm_key.specs.Sets.{IsIn}
use Rattle.lsm_key.specs.Visible.{has_key}
use Rattle.lsm_table.specs.Tables.{Opened, IsTable}
use Rattle.lsm_merge.specs.declared.error.MergeError.{MergeError}
use Rattle.lsm_merge.specs.declared.error.MergeError.TheVariants.{WrongInputs, SameEntry, OutOfMemory}
use Rattle.lsm_merge.specs.Inputs.{HaveSameEntry, lists_of}

-- each of them is a table
abbrev pub AllTables : List Opened → Type 0
AllTables tables = (t : Opened) → IsIn t tables → IsTable t.bytes t.entries

-- an entry has the internal key's key and sequence
abbrev pub has_place : InternalKey → List Entry → Bool
has_place ikey entries = list_any (λ e. has_key ikey.key e && nat_eq e.ikey.seq ikey.seq) entries

-- why the tables of a job are not merged; where memory ran out, they may share an entry all the same
abbrev pub IsUnmerged : List Opened → MergeError → Type 0
IsUnmerged tables WrongInputs = ⊥
IsUnmerged tables SameEntry = HaveSameEntry (lists_of tables)
IsUnmerged tables OutOfMemory = ⊤
