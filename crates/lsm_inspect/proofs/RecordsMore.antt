-- Records of a log with one record more behind them.
use Rattle.std.proofs.Common.{◌≡◌, ℕ, ◌+◌, ◌<◌, ◌≤◌, List, [], ◌∷◌, ◌++◌, None, length, refl, ap, arith, inl, inr}
use Rattle.lsm_key.specs.declared.op.Op.{Op}
use Rattle.lsm_key.specs.Limits.{total_weight}
use Rattle.lsm_key.proofs.Membership.{IsIn-append_cases}
use Rattle.lsm_edit.specs.declared.log_record.LogRecord.{LogRecord}
use Rattle.lsm_edit.specs.declared.log_record.LogRecord.TheVariants.{Write, Freeze}
use Rattle.lsm_edit.specs.Log.{BeginsLate, IsHeavy, Straddles, active_ops, end_of, frozen_ops}
use Rattle.lsm_edit.proofs.LogLaws.{record_end}
use Rattle.lsm_edit.proofs.LogRecordLaws.{seq_of}

-- a write that is first begins in time, and a freeze is not first
pub begun_write : (flushed : ℕ) (records : List LogRecord) (first : ℕ) (ops : List Op) → (BeginsLate flushed records → ⊥) → (end_of records ≡ None → first ≤ flushed + 1) → BeginsLate flushed (records ++ Write first ops ∷ []) → ⊥
begun_write flushed [] first ops begun low late = (let early = low refl in omega (arith, late, early))
begun_write flushed (Write f os ∷ records) first ops begun low late = begun late
begun_write flushed (Freeze at ∷ records) first ops begun low late = begun tt

pub begun_freeze : (flushed : ℕ) (records : List LogRecord) (at : ℕ) → (BeginsLate flushed records → ⊥) → (end_of records ≡ None → ⊥) → BeginsLate flushed (records ++ Freeze at ∷ []) → ⊥
begun_freeze flushed [] at begun some late = some refl
begun_freeze flushed (Write f os ∷ records) at begun some late = begun late
begun_freeze flushed (Freeze z ∷ records) at begun some late = begun tt

-- a write is not flushed in part if the last one is not
pub apart_write : (flushed : ℕ) (records : List LogRecord) (first : ℕ) (ops : List Op) → (Straddles flushed records → ⊥) → (first ≤ flushed → flushed + 1 < first + length ops → ⊥) → Straddles flushed (records ++ Write first ops ∷ []) → ⊥
apart_write flushed records first ops apart whole s = elim (IsIn-append_cases (Write s.first s.ops) records (Write first ops ∷ []) s.among) [
  | inl before ↦ apart (record { first = s.first; ops = s.ops; among = before; low = s.low; high = s.high })
  | inr m ↦ elim m [
    | inl same ↦ (
        let begins : s.first ≡ first = ap seq_of same in
        let ends : s.first + length s.ops ≡ first + length ops = ap record_end same in
        let low = s.low in
        let high = s.high in
        whole (omega (arith, begins, low)) (omega (arith, ends, high)))
    | inr none ↦ none
  ]
]

pub apart_freeze : (flushed : ℕ) (records : List LogRecord) (at : ℕ) → (Straddles flushed records → ⊥) → Straddles flushed (records ++ Freeze at ∷ []) → ⊥
apart_freeze flushed records at apart s = elim (IsIn-append_cases (Write s.first s.ops) records (Freeze at ∷ []) s.among) [
  | inl before ↦ apart (record { first = s.first; ops = s.ops; among = before; low = s.low; high = s.high })
  | inr m ↦ elim m [ inl same ↦ cc | inr none ↦ none ]
]

-- what is too heavy stays so
pub heavy_on : (flushed : ℕ) (old new : List LogRecord) → total_weight (frozen_ops flushed old) ≤ total_weight (frozen_ops flushed new) → total_weight (active_ops flushed old) ≤ total_weight (active_ops flushed new) → IsHeavy flushed old → IsHeavy flushed new
heavy_on flushed old new frozen active (inl over) = inl (omega (arith, over, frozen))
heavy_on flushed old new frozen active (inr over) = inr (omega (arith, over, active))
