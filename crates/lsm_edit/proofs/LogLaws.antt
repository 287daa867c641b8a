-- A log whose records follow one another, record by record; this is what the two rules on positions say.
use Rattle.std.proofs.Common.{◌≡◌, ℕ, zero, suc, ◌+◌, ◌-◌, ◌<◌, ◌≤◌, List, [], ◌∷◌, ◌++◌, Option, None, Some, length, take, drop, refl, sym, ap, subst, ◌∙◌, append_assoc, arith, inl, inr, ◌⊎◌}
use Rattle.std.specs.Option.{unwrap_or, option_or}
use Rattle.std.proofs.lemmas.Bool.{cases_eq, cases_lt}
use Rattle.lsm_key.specs.declared.op.Op.{Op}
use Rattle.lsm_edit.specs.declared.log_record.LogRecord.{LogRecord}
use Rattle.lsm_edit.specs.declared.log_record.LogRecord.TheVariants.{Write, Freeze}
use Rattle.lsm_key.specs.declared.limits.TheConstants.{MAX_MEMTABLE_WEIGHT}
use Rattle.lsm_key.specs.Limits.{total_weight}
use Rattle.lsm_edit.specs.Log.{BadRecords, IsGood, Linked, LeavesGap, FreezesElsewhere, active_ops, end_of, frozen_ops, log_freezes, begins_late, leaves_gap, straddles, freezes_elsewhere, freezes_twice, ends_early, is_heavy}
use Rattle.lsm_edit.specs.LogLaws.{BadIsNotGood}

-- the end of records with one more
pub end_write : (before : List LogRecord) (first : ℕ) (ops : List Op) → end_of (before ++ Write first ops ∷ []) ≡ Some (first + length ops - 1)
end_write [] first ops = refl
end_write (Write f os ∷ before) first ops = ap (λ (o : Option ℕ). Some (unwrap_or o (f + length os - 1))) (end_write before first ops)
end_write (Freeze at ∷ before) first ops = end_write before first ops

pub end_freeze : (before : List LogRecord) (at : ℕ) → end_of (before ++ Freeze at ∷ []) ≡ end_of before
end_freeze [] at = refl
end_freeze (Write f os ∷ before) at = ap (λ (o : Option ℕ). Some (unwrap_or o (f + length os - 1))) (end_freeze before at)
end_freeze (Freeze other ∷ before) at = end_freeze before at

-- a log without a gap and without a freeze elsewhere is linked
pub good_linked : (before records : List LogRecord) (o : Option ℕ) → end_of before ≡ o → (LeavesGap (before ++ records) → ⊥) → (FreezesElsewhere (before ++ records) → ⊥) → Linked o records
good_linked before [] o is whole there = tt
good_linked before (Write first ops ∷ records) None is whole there =
    good_linked (before ++ Write first ops ∷ []) records (Some (first + length ops - 1)) (end_write before first ops)
    (subst (λ (l : List LogRecord). LeavesGap l → ⊥) (sym (append_assoc before (Write first ops ∷ []) records)) whole) (subst (λ (l : List LogRecord). FreezesElsewhere l → ⊥) (sym (append_assoc before (Write first ops ∷ []) records)) there)
good_linked before (Write first ops ∷ records) (Some last) is whole there = (
  by_case (cases_eq first (last + 1)),
  good_linked (before ++ Write first ops ∷ []) records (Some (first + length ops - 1)) (end_write before first ops)
      (subst (λ (l : List LogRecord). LeavesGap l → ⊥) (sym (append_assoc before (Write first ops ∷ []) records)) whole) (subst (λ (l : List LogRecord). FreezesElsewhere l → ⊥) (sym (append_assoc before (Write first ops ∷ []) records)) there),
)
  where
    by_case : (first ≡ last + 1) ⊎ (first ≡ last + 1 → ⊥) → first ≡ last + 1
    by_case (inl e) = e
    by_case (inr n) = absurd (whole (record { before = before; first = first; ops = ops; after = records; end = last; parts = refl; ends = is; gap = n }))
good_linked before (Freeze at ∷ records) None is whole there =
    good_linked (before ++ Freeze at ∷ []) records None (end_freeze before at ∙ is)
    (subst (λ (l : List LogRecord). LeavesGap l → ⊥) (sym (append_assoc before (Freeze at ∷ []) records)) whole) (subst (λ (l : List LogRecord). FreezesElsewhere l → ⊥) (sym (append_assoc before (Freeze at ∷ []) records)) there)
good_linked before (Freeze at ∷ records) (Some last) is whole there = (
  by_case (cases_eq at last),
  good_linked (before ++ Freeze at ∷ []) records (Some last) (end_freeze before at ∙ is)
      (subst (λ (l : List LogRecord). LeavesGap l → ⊥) (sym (append_assoc before (Freeze at ∷ []) records)) whole) (subst (λ (l : List LogRecord). FreezesElsewhere l → ⊥) (sym (append_assoc before (Freeze at ∷ []) records)) there),
)
  where
    by_case : (at ≡ last) ⊎ (at ≡ last → ⊥) → at ≡ last
    by_case (inl e) = e
    by_case (inr n) = absurd (there (record { before = before; at = at; after = records; end = last; parts = refl; ends = is; elsewhere = n }))

-- the last sequence of records after others that end so
abbrev pub later : Option ℕ → List LogRecord → Option ℕ
later o before = option_or (end_of before) o

-- the end of records behind a write
pub onward : (e : ℕ) (before : List LogRecord) (o : Option ℕ) → later (Some e) before ≡ option_or (Some (unwrap_or (end_of before) e)) o
onward e before o = by_end (end_of before)
  where
    by_end : (x : Option ℕ) → option_or x (Some e) ≡ option_or (Some (unwrap_or x e)) o
    by_end None = refl
    by_end (Some n) = refl

-- in a linked log each write that has one before it begins one after that
pub linked_writes : (before : List LogRecord) (o : Option ℕ) (first : ℕ) (ops : List Op) (after : List LogRecord) (end : ℕ) → Linked o (before ++ Write first ops ∷ after) → later o before ≡ Some end → first ≡ end + 1
linked_writes [] None first ops after end is at = absurd cc
linked_writes [] (Some last) first ops after end is at = is.0 ∙ ap (λ (o : Option ℕ). unwrap_or o 0 + 1) at
linked_writes (Write f os ∷ before) None first ops after end is at = linked_writes before (Some (f + length os - 1)) first ops after end is (onward (f + length os - 1) before None ∙ at)
linked_writes (Write f os ∷ before) (Some last) first ops after end is at = linked_writes before (Some (f + length os - 1)) first ops after end is.1 (onward (f + length os - 1) before (Some last) ∙ at)
linked_writes (Freeze other ∷ before) None first ops after end is at = linked_writes before None first ops after end is at
linked_writes (Freeze other ∷ before) (Some last) first ops after end is at = linked_writes before (Some last) first ops after end is.1 at

-- and each freeze is at the last sequence before it
pub linked_freezes : (before : List LogRecord) (o : Option ℕ) (at : ℕ) (after : List LogRecord) (end : ℕ) → Linked o (before ++ Freeze at ∷ after) → later o before ≡ Some end → at ≡ end
linked_freezes [] None at after end is last_is = absurd cc
linked_freezes [] (Some last) at after end is last_is = is.0 ∙ ap (λ (o : Option ℕ). unwrap_or o 0) last_is
linked_freezes (Write f os ∷ before) None at after end is last_is = linked_freezes before (Some (f + length os - 1)) at after end is (onward (f + length os - 1) before None ∙ last_is)
linked_freezes (Write f os ∷ before) (Some last) at after end is last_is = linked_freezes before (Some (f + length os - 1)) at after end is.1 (onward (f + length os - 1) before (Some last) ∙ last_is)
linked_freezes (Freeze other ∷ before) None at after end is last_is = linked_freezes before None at after end is last_is
linked_freezes (Freeze other ∷ before) (Some last) at after end is last_is = linked_freezes before (Some last) at after end is.1 last_is

-- so a linked log has no gap, and no freeze elsewhere
pub no_end : (o : Option ℕ) → option_or o None ≡ o
no_end None = refl
no_end (Some n) = refl

pub linked_whole : (records : List LogRecord) → Linked None records → LeavesGap records → ⊥
linked_whole records is g = g.gap (linked_writes g.before None g.first g.ops g.after g.end (subst (λ (l : List LogRecord). Linked None l) g.parts is) (no_end (end_of g.before) ∙ g.ends))

pub linked_there : (records : List LogRecord) → Linked None records → FreezesElsewhere records → ⊥
linked_there records is g = g.elsewhere (linked_freezes g.before None g.at g.after g.end (subst (λ (l : List LogRecord). Linked None l) g.parts is) (no_end (end_of g.before) ∙ g.ends))

-- ---- good logs

pub not_above : (n m : ℕ) → (n < m → ⊥) → m ≤ n
not_above n m not = elim (cases_lt n m) [
  | inl lt ↦ absurd (not lt)
  | inr le ↦ le
]

pub take_none : (n : ℕ) → take {A = Op} n [] ≡ []
take_none zero = refl
take_none (suc n) = refl

pub drop_none : (n : ℕ) → drop {A = Op} n [] ≡ []
drop_none zero = refl
drop_none (suc n) = refl

-- one past the last sequence of a write
abbrev pub record_end : LogRecord → ℕ
record_end (Write first ops) = first + length ops
record_end (Freeze at) = at

pub not_bad_good : (flushed : ℕ) (records : List LogRecord) → (BadRecords flushed records → ⊥) → IsGood flushed records
not_bad_good flushed records not = record {
  begun = λ h. not (begins_late h);
  linked = good_linked [] records None refl (λ h. not (leaves_gap h)) (λ h. not (freezes_elsewhere h));
  apart = λ h. not (straddles h);
  once = not_above 1 (length (log_freezes flushed records)) (λ h. not (freezes_twice h));
  reaches = λ h. not (ends_early h);
  frozen_light = not_above MAX_MEMTABLE_WEIGHT (total_weight (frozen_ops flushed records)) (λ h. not (is_heavy (inl h)));
  active_light = not_above MAX_MEMTABLE_WEIGHT (total_weight (active_ops flushed records)) (λ h. not (is_heavy (inr h)));
}

pub good_not_bad : (flushed : ℕ) (records : List LogRecord) → IsGood flushed records → BadRecords flushed records → ⊥
good_not_bad flushed records g (begins_late h) = g.begun h
good_not_bad flushed records g (leaves_gap h) = linked_whole records g.linked h
good_not_bad flushed records g (straddles h) = g.apart h
good_not_bad flushed records g (freezes_elsewhere h) = linked_there records g.linked h
good_not_bad flushed records g (freezes_twice h) = (let once = g.once in omega (arith, h, once))
good_not_bad flushed records g (ends_early h) = g.reaches h
good_not_bad flushed records g (is_heavy (inl h)) = (let light = g.frozen_light in omega (arith, h, light))
good_not_bad flushed records g (is_heavy (inr h)) = (let light = g.active_light in omega (arith, h, light))

pub bad_is_not_good : BadIsNotGood
bad_is_not_good flushed records = (not_bad_good flushed records, good_not_bad flushed records)
