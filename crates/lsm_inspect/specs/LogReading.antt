-- What the records of a log have been so far, with no memtable made.
use Rattle.std.specs.Prelude.{◌≡◌, ℕ, ◌+◌, ◌-◌, ◌≤◌, Bool, true, false, List, [], ◌∷◌, ◌++◌, Option, None, Some, IsErr, length, nat_eq, nat_le, nat_lt, if◌then◌else◌}
use Rattle.std.specs.Option.{unwrap_or}
use Rattle.lsm_key.specs.declared.limits.TheConstants.{MAX_MEMTABLE_WEIGHT}
use Rattle.lsm_key.specs.declared.refused.Refused.{Refused}
use Rattle.lsm_key.specs.declared.refused.Refused.TheVariants as refused
use Rattle.lsm_key.specs.Limits.{total_weight}
use Rattle.lsm_key.specs.Sets.{IsIn}
use Rattle.lsm_edit.specs.declared.log_record.LogRecord.{LogRecord}
use Rattle.lsm_edit.specs.LogRecord.{read_record}
use Rattle.lsm_edit.specs.Log.{BeginsLate, IsHeavy, Linked, Straddles, active_ops, end_of, frozen_ops, log_freezes, log_frozen, log_ops, read_records}
use Rattle.lsm_inspect.specs.declared.damage.LogDamage.{LogDamage}
use Rattle.lsm_inspect.specs.declared.damage.LogDamage.TheVariants as damage
use Rattle.lsm_inspect.specs.declared.reading.LogReading.{LogReading}
use Rattle.lsm_inspect.specs.Log.{IsRecordsDamage}

-- no record has been read
abbrev pub no_reading : LogReading
no_reading = record { last = None; is_frozen = false; weight = 0; is_heavy = false }

-- a write may begin here: after the last one, or in time if it is the first
abbrev pub may_begin : ℕ → Option ℕ → ℕ → Bool
may_begin flushed None first = nat_le first (flushed + 1)
may_begin flushed (Some last) first = nat_eq first (last + 1)

-- what is wrong where it may not
abbrev pub late_or_gap : Option ℕ → ℕ → LogDamage
late_or_gap None first = damage.BeginsLate
late_or_gap (Some last) first = damage.LeavesGap last first

-- a freeze may stand here: at the last sequence of the last write
abbrev pub may_freeze : Option ℕ → ℕ → Bool
may_freeze None place = false
may_freeze (Some last) place = nat_eq place last

-- what is wrong where it may not
abbrev pub late_or_elsewhere : Option ℕ → ℕ → LogDamage
late_or_elsewhere None place = damage.BeginsLate
late_or_elsewhere (Some last) place = damage.FreezesElsewhere last place

-- the last write ends before the flushed sequence
abbrev pub ends_short : ℕ → Option ℕ → Bool
ends_short flushed None = false
ends_short flushed (Some last) = nat_lt last flushed

-- how many sequences there are from a flushed one to the last one
abbrev pub held_above : ℕ → Option ℕ → ℕ
held_above flushed None = 0
held_above flushed (Some last) = last - flushed

-- with operations of this weight: what fits no memtable is not weighed on
abbrev pub with_weight : ℕ → LogReading → LogReading
with_weight more r =
    if r.is_heavy then r else
    (if nat_lt (MAX_MEMTABLE_WEIGHT - r.weight) more then record r { is_heavy = true } else record r { weight = r.weight + more })

-- The records are those of a good log as far as they go, but for their weight.
pub record IsReading (flushed : ℕ) (records : List LogRecord) (r : LogReading) : Type 0 where
  pub begun : BeginsLate flushed records → ⊥
  pub none : end_of records ≡ None → records ≡ []
  pub linked : Linked None records
  pub apart : Straddles flushed records → ⊥
  pub once : length (log_freezes flushed records) ≤ 1
  pub last_is : r.last ≡ end_of records
  pub free : r.is_frozen ≡ false → log_freezes flushed records ≡ []
  pub frozen : r.is_frozen ≡ true → 1 ≤ length (log_freezes flushed records)
  pub count : (end : ℕ) → end_of records ≡ Some end → length (log_ops flushed records) ≡ end - flushed
  pub within : unwrap_or (log_frozen flushed records) flushed - flushed ≤ length (log_ops flushed records)
  pub light : r.is_heavy ≡ false → (total_weight (frozen_ops flushed records) ≤ MAX_MEMTABLE_WEIGHT) × (r.weight ≡ total_weight (active_ops flushed records)) × (r.weight ≤ MAX_MEMTABLE_WEIGHT)
  pub heavy : r.is_heavy ≡ true → IsHeavy flushed records

-- one record more
abbrev pub ReadsOn : ℕ → LogRecord → LogReading → LogReading → Type 0
ReadsOn flushed logged old new = (records : List LogRecord) → IsReading flushed records old → IsReading flushed (records ++ logged ∷ []) new

-- with this record next a log is damaged, for this reason, whatever comes after it
abbrev pub Damages : ℕ → LogRecord → LogReading → Refused LogDamage → Type 0
Damages flushed logged old refused.OutOfMemory = Unit {0}
Damages flushed logged old (refused.Fault d) = (records after : List LogRecord) → IsReading flushed records old → IsRecordsDamage flushed (records ++ logged ∷ after) d

-- each of these texts is a record, and so far they are this
pub record HasReadLog (flushed : ℕ) (texts : List (List ℕ)) (r : LogReading) : Type 0 where
  pub each : (text : List ℕ) → IsIn text texts → IsErr (read_record text) → ⊥
  pub reading : IsReading flushed (read_records texts) r
