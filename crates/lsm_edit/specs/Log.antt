-- What a log holds of the writes after a flushed sequence, and which logs are bad (LevelDB, db_impl.cc: DBImpl::RecoverLogFile; the freezes are the store's own).
use Rattle.std.specs.Prelude.{◌≡◌, ◌≢◌, ℕ, ◌+◌, ◌-◌, ◌<◌, ◌≤◌, ◌⊎◌, List, [], ◌∷◌, ◌++◌, Option, None, Some, IsErr, length, drop, take, nat_lt, Result, Ok, Err, if◌then◌else◌}
use Rattle.std.specs.List.{flat_map}
use Rattle.std.specs.Option.{unwrap_or}
use Rattle.lsm_key.specs.declared.op.Op.{Op}
use Rattle.lsm_key.specs.declared.limits.TheConstants.{MAX_MEMTABLE_WEIGHT}
use Rattle.lsm_key.specs.Limits.{total_weight}
use Rattle.lsm_key.specs.Sets.{IsIn}
use Rattle.lsm_edit.specs.declared.log_record.LogRecord.{LogRecord}
use Rattle.lsm_edit.specs.declared.log_record.LogRecord.TheVariants.{Write, Freeze}
use Rattle.lsm_edit.specs.LogRecord.{read_record}

-- ---- what is in a log

-- the record that bytes spell, or none
abbrev pub spelled_record : {F : Type 0} → Result LogRecord F → List LogRecord
spelled_record (Ok r) = r ∷ []
spelled_record (Err fault) = []

-- the records that the texts of a log spell, in order
abbrev pub read_records : List (List ℕ) → List LogRecord
read_records texts = flat_map (λ text. spelled_record (read_record text)) texts

-- the last sequence of the last write, if there is one
abbrev pub end_of : List LogRecord → Option ℕ
end_of [] = None
end_of (Write first ops ∷ records) = Some (unwrap_or (end_of records) (first + length ops - 1))
end_of (Freeze at ∷ records) = end_of records

-- the operations of a record whose sequences are above one
abbrev pub ops_above : ℕ → LogRecord → List Op
ops_above flushed (Write first ops) = drop (flushed + 1 - first) ops
ops_above flushed (Freeze at) = []

-- the sequence of a freeze that is above one
abbrev pub freeze_above : ℕ → LogRecord → List ℕ
freeze_above flushed (Write first ops) = []
freeze_above flushed (Freeze at) = if nat_lt flushed at then at ∷ [] else []

-- the operations of a log with sequences above one, in order
abbrev pub log_ops : ℕ → List LogRecord → List Op
log_ops flushed records = flat_map (ops_above flushed) records

-- its freezes above one
abbrev pub log_freezes : ℕ → List LogRecord → List ℕ
log_freezes flushed records = flat_map (freeze_above flushed) records

-- the first sequence of some freezes, if there is one
abbrev pub first_freeze : List ℕ → Option ℕ
first_freeze [] = None
first_freeze (n ∷ ns) = Some n

-- the frozen end, or none
abbrev pub log_frozen : ℕ → List LogRecord → Option ℕ
log_frozen flushed records = first_freeze (log_freezes flushed records)

-- the operations up to the frozen end, none if nothing is frozen
abbrev pub frozen_ops : ℕ → List LogRecord → List Op
frozen_ops flushed records = take (unwrap_or (log_frozen flushed records) flushed - flushed) (log_ops flushed records)

-- and those after it
abbrev pub active_ops : ℕ → List LogRecord → List Op
active_ops flushed records = drop (unwrap_or (log_frozen flushed records) flushed - flushed) (log_ops flushed records)

-- ---- what makes a log bad

-- the first record is a freeze, or a write that begins later than right after the flushed sequence
abbrev pub BeginsLate : ℕ → List LogRecord → Type 0
BeginsLate flushed [] = ⊥
BeginsLate flushed (Write first ops ∷ records) = flushed + 1 < first
BeginsLate flushed (Freeze at ∷ records) = Unit {0}

-- a write does not begin one after the write before it
pub record LeavesGap (records : List LogRecord) : Type 0 where
  pub before : List LogRecord
  pub first : ℕ
  pub ops : List Op
  pub after : List LogRecord
  pub end : ℕ
  pub parts : records ≡ before ++ Write first ops ∷ after
  pub ends : end_of before ≡ Some end
  pub gap : first ≢ end + 1

-- a write has sequences up to the flushed one, and above it
pub record Straddles (flushed : ℕ) (records : List LogRecord) : Type 0 where
  pub first : ℕ
  pub ops : List Op
  pub among : IsIn (Write first ops) records
  pub low : first ≤ flushed
  pub high : flushed + 1 < first + length ops

-- a freeze is not at the last sequence before it
pub record FreezesElsewhere (records : List LogRecord) : Type 0 where
  pub before : List LogRecord
  pub at : ℕ
  pub after : List LogRecord
  pub end : ℕ
  pub parts : records ≡ before ++ Freeze at ∷ after
  pub ends : end_of before ≡ Some end
  pub elsewhere : at ≢ end

-- the last write ends below the flushed sequence
abbrev pub EndsEarly : ℕ → List LogRecord → Type 0
EndsEarly flushed records = (end : ℕ) × (end_of records ≡ Some end) × (end < flushed)

-- the operations up to the frozen end, or those after it, are more than a memtable holds
abbrev pub IsHeavy : ℕ → List LogRecord → Type 0
IsHeavy flushed records = (MAX_MEMTABLE_WEIGHT < total_weight (frozen_ops flushed records)) ⊎ (MAX_MEMTABLE_WEIGHT < total_weight (active_ops flushed records))

-- a log of these records is bad over this flushed sequence
pub data BadRecords (flushed : ℕ) (records : List LogRecord) : Type 0 where
  begins_late : BeginsLate flushed records → BadRecords flushed records
  leaves_gap : LeavesGap records → BadRecords flushed records
  straddles : Straddles flushed records → BadRecords flushed records
  freezes_elsewhere : FreezesElsewhere records → BadRecords flushed records
  freezes_twice : 1 < length (log_freezes flushed records) → BadRecords flushed records
  ends_early : EndsEarly flushed records → BadRecords flushed records
  is_heavy : IsHeavy flushed records → BadRecords flushed records

-- a text is no record, or the records make a bad log
abbrev pub BadLog : ℕ → List (List ℕ) → Type 0
BadLog flushed texts = ((text : List ℕ) × IsIn text texts × IsErr (read_record text)) ⊎ BadRecords flushed (read_records texts)

-- over a flushed sequence the log is good, and holds these operations and this frozen end
pub record LogHolds (flushed : ℕ) (texts : List (List ℕ)) (ops : List Op) (frozen : Option ℕ) : Type 0 where
  pub good : BadLog flushed texts → ⊥
  pub ops_are : ops ≡ log_ops flushed (read_records texts)
  pub frozen_is : frozen ≡ log_frozen flushed (read_records texts)

-- ---- a good log, record by record

-- from the last sequence so far on, if there is one, each write begins one after it and each freeze is at it
abbrev pub Linked : Option ℕ → List LogRecord → Type 0
Linked last [] = Unit {0}
Linked None (Write first ops ∷ records) = Linked (Some (first + length ops - 1)) records
Linked None (Freeze at ∷ records) = Linked None records
Linked (Some last) (Write first ops ∷ records) = (first ≡ last + 1) × Linked (Some (first + length ops - 1)) records
Linked (Some last) (Freeze at ∷ records) = (at ≡ last) × Linked (Some last) records

-- what a log is that is not bad
pub record IsGood (flushed : ℕ) (records : List LogRecord) : Type 0 where
  pub begun : BeginsLate flushed records → ⊥
  pub linked : Linked None records
  pub apart : Straddles flushed records → ⊥
  pub once : length (log_freezes flushed records) ≤ 1
  pub reaches : EndsEarly flushed records → ⊥
  pub frozen_light : total_weight (frozen_ops flushed records) ≤ MAX_MEMTABLE_WEIGHT
  pub active_light : total_weight (active_ops flushed records) ≤ MAX_MEMTABLE_WEIGHT
