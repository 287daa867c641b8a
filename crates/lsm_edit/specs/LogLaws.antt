-- What a store's calls make of a good log.
use Rattle.std.specs.Prelude.{◌≡◌, ℕ, ◌+◌, ◌-◌, ◌≤◌, List, [], ◌∷◌, ◌++◌, Option, None, Some, length, map, drop}
use Rattle.lsm_key.specs.declared.op.Op.{Op}
use Rattle.lsm_key.specs.declared.limits.TheConstants.{MAX_MEMTABLE_WEIGHT}
use Rattle.lsm_key.specs.Limits.{total_weight}
use Rattle.lsm_key.specs.Sets.{IsIn}
use Rattle.lsm_edit.specs.declared.log_record.LogRecord.{LogRecord}
use Rattle.lsm_edit.specs.declared.log_record.LogRecord.TheVariants.{Write, Freeze}
use Rattle.lsm_edit.specs.LogRecord.{IsRecord, record_bytes}
use Rattle.lsm_edit.specs.Log.{BadRecords, IsGood, LogHolds, active_ops, end_of, log_freezes, log_frozen, log_ops}

-- a log is bad exactly if it is not good
abbrev pub BadIsNotGood : Type 0
BadIsNotGood = (flushed : ℕ) (records : List LogRecord) → ((BadRecords flushed records → ⊥) → IsGood flushed records) × (IsGood flushed records → BadRecords flushed records → ⊥)

-- the records make a good log over a flushed sequence, which holds these operations and this frozen end
pub record RecordsHold (flushed : ℕ) (records : List LogRecord) (ops : List Op) (frozen : Option ℕ) : Type 0 where
  pub good : IsGood flushed records
  pub ops_are : ops ≡ log_ops flushed records
  pub frozen_is : frozen ≡ log_frozen flushed records

-- each may be written as a record of a log
abbrev pub AreRecords : List LogRecord → Type 0
AreRecords records = (r : LogRecord) → IsIn r records → IsRecord r

-- as bytes, such records are a log that holds the same
abbrev pub BytesHoldTheSame : Type 0
BytesHoldTheSame =
    (flushed : ℕ) (records : List LogRecord) (ops : List Op) (frozen : Option ℕ) → RecordsHold flushed records ops frozen → AreRecords records
    → LogHolds flushed (map record_bytes records) ops frozen

-- with the next write a log holds its operations too, and the same frozen end
abbrev pub AWriteIsHeld : Type 0
AWriteIsHeld =
    (flushed : ℕ) (records : List LogRecord) (ops more : List Op) (frozen : Option ℕ) → RecordsHold flushed records ops frozen → AreRecords records
    → 1 ≤ length more → total_weight (active_ops flushed records) + total_weight more ≤ MAX_MEMTABLE_WEIGHT
    → RecordsHold flushed (records ++ Write (flushed + length ops + 1) more ∷ []) (ops ++ more) frozen

-- with a freeze at its last sequence it holds the same operations, frozen to their end
abbrev pub AFreezeIsHeld : Type 0
AFreezeIsHeld =
    (flushed : ℕ) (records : List LogRecord) (ops : List Op) → RecordsHold flushed records ops None → AreRecords records → 1 ≤ length ops
    → RecordsHold flushed (records ++ Freeze (flushed + length ops) ∷ []) ops (Some (flushed + length ops))

-- over its frozen end it holds the operations after that
abbrev pub AFrozenEndIsFlushed : Type 0
AFrozenEndIsFlushed =
    (flushed : ℕ) (records : List LogRecord) (ops : List Op) (end : ℕ) → RecordsHold flushed records ops (Some end)
    → RecordsHold end records (drop (end - flushed) ops) None

-- over its last sequence it holds nothing
abbrev pub ALogIsFlushed : Type 0
ALogIsFlushed =
    (flushed : ℕ) (records : List LogRecord) (ops : List Op) → RecordsHold flushed records ops None → AreRecords records
    → RecordsHold (flushed + length ops) records [] None

-- it holds the same without first records that hold nothing, if a write is first then
abbrev pub ACutHoldsTheSame : Type 0
ACutHoldsTheSame =
    (flushed : ℕ) (before records : List LogRecord) (first : ℕ) (more ops : List Op) (frozen : Option ℕ) → RecordsHold flushed (before ++ Write first more ∷ records) ops frozen
    → log_ops flushed before ≡ [] → log_freezes flushed before ≡ [] → ((end : ℕ) → end_of before ≡ Some end → end ≤ flushed)
    → RecordsHold flushed (Write first more ∷ records) ops frozen
