-- What a look-up in a table's bytes answers (LevelDB, doc/index.md: reads and snapshots; a table's format is in specs/Tables.antt of lsm_table).
use Rattle.std.specs.Prelude.{◌≡◌, ℕ, ◌<◌, ◌≤◌, ◌^◌, List, ◌++◌, length, drop, nat_le, Some, None, if◌then◌else◌}
use Rattle.lsm_key.specs.declared.entry.Entry.{Entry}
use Rattle.lsm_key.specs.Visible.{visible, entry_value, value_at}
use Rattle.lsm_table.specs.Tables.{IsTable}
use Rattle.luddimpa.specs.declared.found.Found.{Found}
use Rattle.luddimpa.specs.declared.found.Lookup.{Lookup}
use Rattle.luddimpa.specs.declared.found.Lookup.TheVariants.{Value, Deleted, Absent, NoSequence, NotATable, OutOfMemory}
use Rattle.luddimpa.specs.declared.status.Status.TheVariants as status
use Rattle.luddimpa.specs.Statuses.{status_code}

-- the caller's memory after bytes were copied to its front, if it has room for all of them
abbrev pub copied : List ℕ → List ℕ → List ℕ
copied bytes out = if nat_le (length bytes) (length out) then bytes ++ drop (length bytes) out else out

abbrev pub found_of : Lookup → Found
found_of (Value size) = record { status = status_code status.Ok; length = size }
found_of Deleted = record { status = status_code status.Deleted; length = 0 }
found_of Absent = record { status = status_code status.Absent; length = 0 }
found_of NoSequence = record { status = status_code status.NoSequence; length = 0 }
found_of NotATable = record { status = status_code status.NotATable; length = 0 }
found_of OutOfMemory = record { status = status_code status.OutOfMemory; length = 0 }

-- a read of the key at the sequence gives a value of this length, which is copied
pub record FindsValue (table key : List ℕ) (at : ℕ) (before after : List ℕ) (size : ℕ) : Type 0 where
  pub sequence : at < 2 ^ 56
  pub entries : List Entry
  pub is_table : IsTable table entries
  pub value : List ℕ
  pub read : value_at entries key at ≡ Some value
  pub whole : size ≡ length value
  pub room : after ≡ copied value before

-- the visible entry is a deletion
pub record FindsDeletion (table key : List ℕ) (at : ℕ) : Type 0 where
  pub sequence : at < 2 ^ 56
  pub entries : List Entry
  pub is_table : IsTable table entries
  pub entry : Entry
  pub seen : visible entries key at ≡ Some entry
  pub deleted : entry_value entry ≡ None

-- there is no visible entry
pub record FindsNothing (table key : List ℕ) (at : ℕ) : Type 0 where
  pub sequence : at < 2 ^ 56
  pub entries : List Entry
  pub is_table : IsTable table entries
  pub none : visible entries key at ≡ None

-- what is found, with the caller's memory before and after it
abbrev pub LooksUp : List ℕ → List ℕ → ℕ → List ℕ → List ℕ → Lookup → Type 0
LooksUp table key at before after (Value size) = FindsValue table key at before after size
LooksUp table key at before after Deleted = FindsDeletion table key at × (after ≡ before)
LooksUp table key at before after Absent = FindsNothing table key at × (after ≡ before)
LooksUp table key at before after NoSequence = (2 ^ 56 ≤ at) × (after ≡ before)
LooksUp table key at before after NotATable = (at < 2 ^ 56) × ((entries : List Entry) → IsTable table entries → ⊥) × (after ≡ before)
LooksUp table key at before after OutOfMemory = (at < 2 ^ 56) × (after ≡ before)
