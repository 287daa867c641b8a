-- What is wrong with a log over a flushed sequence (LevelDB, db_impl.cc: DBImpl::RecoverLogFile; the freezes are the store's own).
use Rattle.std.specs.Prelude.{◌≡◌, ℕ, ◌<◌, ◌⊎◌, List, Some, Err, length}
use Rattle.lsm_key.specs.Sets.{IsIn}
use Rattle.lsm_key.specs.declared.refused.Refused.{Refused}
use Rattle.lsm_key.specs.declared.refused.Refused.TheVariants as refused
use Rattle.lsm_edit.specs.declared.log_record.LogRecord.{LogRecord}
use Rattle.lsm_edit.specs.LogRecord.{read_record}
use Rattle.lsm_edit.specs.Log.{BadLog, BeginsLate, FreezesElsewhere, IsHeavy, LeavesGap, Straddles, end_of, log_freezes, log_ops, read_records}
use Rattle.lsm_inspect.specs.declared.damage.LogDamage.{LogDamage}
use Rattle.lsm_inspect.specs.declared.damage.LogDamage.TheVariants as damage

-- this is wrong with the bytes of a record
abbrev pub IsTextDamage : List ℕ → LogDamage → Type 0
IsTextDamage text (damage.NoRecord fault) = read_record text ≡ Err fault
IsTextDamage text damage.BeginsLate = ⊥
IsTextDamage text (damage.LeavesGap last next) = ⊥
IsTextDamage text (damage.Straddles begin) = ⊥
IsTextDamage text (damage.FreezesElsewhere last at) = ⊥
IsTextDamage text damage.FreezesTwice = ⊥
IsTextDamage text (damage.EndsEarly last) = ⊥
IsTextDamage text damage.IsHeavy = ⊥

-- this is wrong with the records of a log
abbrev pub IsRecordsDamage : ℕ → List LogRecord → LogDamage → Type 0
IsRecordsDamage flushed records (damage.NoRecord fault) = ⊥
IsRecordsDamage flushed records damage.BeginsLate = BeginsLate flushed records
IsRecordsDamage flushed records (damage.LeavesGap last next) = (gap : LeavesGap records) × (gap.end ≡ last) × (gap.first ≡ next)
IsRecordsDamage flushed records (damage.Straddles begin) = (part : Straddles flushed records) × (part.first ≡ begin)
IsRecordsDamage flushed records (damage.FreezesElsewhere last place) = (freeze : FreezesElsewhere records) × (freeze.end ≡ last) × (freeze.at ≡ place)
IsRecordsDamage flushed records damage.FreezesTwice = 1 < length (log_freezes flushed records)
IsRecordsDamage flushed records (damage.EndsEarly last) = (end_of records ≡ Some last) × (last < flushed)
IsRecordsDamage flushed records damage.IsHeavy = IsHeavy flushed records

-- this is wrong with a log of these texts
abbrev pub IsLogDamage : ℕ → List (List ℕ) → LogDamage → Type 0
IsLogDamage flushed texts d = ((text : List ℕ) × IsIn text texts × IsTextDamage text d) ⊎ IsRecordsDamage flushed (read_records texts) d

-- a log that is not bad, and has this many operations above the flushed sequence
pub record HoldsSoMany (flushed : ℕ) (texts : List (List ℕ)) (above : ℕ) : Type 0 where
  pub good : BadLog flushed texts → ⊥
  pub count : above ≡ length (log_ops flushed (read_records texts))

-- a record is not read, for this reason
abbrev pub RefusesText : List ℕ → Refused LogDamage → Type 0
RefusesText text refused.OutOfMemory = Unit {0}
RefusesText text (refused.Fault d) = IsTextDamage text d

-- a log is not read to its end, for this reason
abbrev pub RefusesLog : ℕ → List (List ℕ) → Refused LogDamage → Type 0
RefusesLog flushed texts refused.OutOfMemory = Unit {0}
RefusesLog flushed texts (refused.Fault d) = IsLogDamage flushed texts d
