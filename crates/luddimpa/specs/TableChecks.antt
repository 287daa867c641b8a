-- What a check of a table's bytes answers (its format and the order of its faults are in specs/Tables.antt and TableReading.antt of lsm_table).
use Rattle.std.specs.Prelude.{◌≡◌, ℕ, List, length, Err}
use Rattle.lsm_key.specs.declared.entry.Entry.{Entry}
use Rattle.lsm_table.specs.Tables.{IsTable}
use Rattle.lsm_table.specs.TableReading.{read_table}
use Rattle.luddimpa.specs.declared.table_check.CheckedTable.{CheckedTable}
use Rattle.luddimpa.specs.declared.table_check.TableCheck.{TableCheck}
use Rattle.luddimpa.specs.declared.table_check.TableCheck.TheVariants.{Table, Fault, OutOfMemory}
use Rattle.luddimpa.specs.declared.status.Status.TheVariants as status
use Rattle.luddimpa.specs.Statuses.{status_code, table_fault_code}

abbrev pub checked_of : TableCheck → CheckedTable
checked_of (Table count) = record { status = status_code status.Ok; fault = 0; entries = count }
checked_of (Fault fault) = record { status = status_code status.NotATable; fault = table_fault_code fault; entries = 0 }
checked_of OutOfMemory = record { status = status_code status.OutOfMemory; fault = 0; entries = 0 }

-- the bytes are the table of so many entries; they are of none, and this is their first fault
abbrev pub ChecksTable : List ℕ → TableCheck → Type 0
ChecksTable bytes (Table count) = (entries : List Entry) × IsTable bytes entries × (length entries ≡ count)
ChecksTable bytes (Fault fault) = ((entries : List Entry) → IsTable bytes entries → ⊥) × (read_table bytes ≡ Err fault)
ChecksTable bytes OutOfMemory = Unit {0}
