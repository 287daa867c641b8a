-- What a coordinator has of the vault's log (LevelDB, implementation notes: a log has the writes of a memtable; db_impl.cc: RemoveObsoleteFiles drops it with the memtable's flush).
use Rattle.std.specs.Prelude.{◌≡◌, ℕ, suc, ◌+◌, ◌-◌, ◌⊎◌, List, [], ◌∷◌, ◌++◌, Option, IfSome, Some, length, map, drop, take, nat_le, if◌then◌else◌}
use Rattle.std.specs.Option.{option_map}
use Rattle.std.specs.List.Sorted.{IsPermutation}
use Rattle.lsm_key.specs.declared.entry.Entry.{Entry}
use Rattle.lsm_key.specs.declared.op.Op.{Op}
use Rattle.lsm_key.specs.Places.{entries_after}
use Rattle.lsm_edit.specs.declared.log_record.LogRecord.{LogRecord}
use Rattle.lsm_edit.specs.declared.log_record.LogRecord.TheVariants.{Write, Freeze}
use Rattle.lsm_edit.specs.LogRecord.{record_bytes}
use Rattle.lsm_edit.specs.Log.{read_records}
use Rattle.lsm_edit.specs.LogLaws.{AreRecords, RecordsHold}
use Rattle.lsm_vault.specs.Stored.{VaultValue}
use Rattle.lsm_coord.specs.declared.frozen.Frozen.{Frozen}
use Rattle.lsm_coord.specs.Contract.Value.{frozen_entries, start_of}

-- with one more record in the log
abbrev pub with_logged : VaultValue → LogRecord → VaultValue
with_logged vault r = record vault { log = vault.log ++ record_bytes r ∷ [] }

-- the sequence of a record: that of a write's first operation
abbrev pub record_seq : LogRecord → ℕ
record_seq (Write first ops) = first
record_seq (Freeze at) = at

-- how many first records of a log are up to a sequence
abbrev pub records_upto : ℕ → List LogRecord → ℕ
records_upto end [] = 0
records_upto end (r ∷ records) = if nat_le (record_seq r) end then suc (records_upto end records) else 0

-- the records up to a sequence are cut from the log, or nothing is
abbrev pub MayCut : ℕ → List (List ℕ) → List (List ℕ) → Type 0
MayCut end old new = (new ≡ old) ⊎ (new ≡ drop (records_upto end (read_records old)) old)

-- The log is good over the flushed sequence, and holds what the memtables have: the frozen one has the operations up to its end,
-- and the active one those after it, up to the last sequence.
pub record IsLogged (active : List Entry) (frozen : Option Frozen) (last flushed : ℕ) (log : List (List ℕ)) : Type 0 where
  pub records : List LogRecord
  pub spelled : log ≡ map record_bytes records
  pub sound : AreRecords records
  pub ops : List Op
  pub holds : RecordsHold flushed records ops (option_map (λ (f : Frozen). f.end) frozen)
  pub last_is : last ≡ flushed + length ops
  pub active_is : IsPermutation active (entries_after (start_of frozen flushed) (drop (start_of frozen flushed - flushed) ops))
  pub frozen_is : IsPermutation (frozen_entries frozen) (entries_after flushed (take (start_of frozen flushed - flushed) ops))

-- Where they are known, the counts are right: that of all records, and that of those up to the end of what is frozen.
pub record IsCounted (frozen : Option Frozen) (log : List (List ℕ)) (logged upto : Option ℕ) : Type 0 where
  pub all : IfSome logged (λ n. n ≡ length log)
  pub frozen_part : IfSome upto (λ n. (f : Frozen) → frozen ≡ Some f → n ≡ records_upto f.end (read_records log))
