-- The worked logs.
use Rattle.std.proofs.Common.{◌≡◌, ℕ, ◌-◌, ◌≤◌, List, [], ◌∷◌, ◌++◌, Option, length, refl, ap, arith, inl, inr}
use Rattle.lsm_edit.specs.declared.log_record.LogRecord.{LogRecord}
use Rattle.lsm_edit.specs.declared.log_record.LogRecord.TheVariants.{Write, Freeze}
use Rattle.lsm_edit.specs.LogRecord.{read_record, log_record_at, write_at, op_at, put_at}
use Rattle.lsm_key.specs.Reading.{key_at}
use Rattle.std.specs.Option.{unwrap_or}
use Rattle.lsm_key.specs.declared.op.Op.{Op}
use Rattle.lsm_key.specs.Limits.{total_weight}
use Rattle.lsm_key.specs.Sets.{IsIn}
use Rattle.lsm_edit.specs.Log.{active_ops, frozen_ops, log_freezes, log_frozen, BadLog, IsGood, begins_late, leaves_gap, straddles, freezes_elsewhere, freezes_twice, ends_early, is_heavy}
use Rattle.lsm_edit.proofs.LogLaws.{drop_none, good_not_bad, take_none}
use Rattle.lsm_edit.specs.WorkedLogs.{put_a, put_b, two_memtables, TwoMemtablesAreGood, WriteHasTheseBytes, HoldsTheWritesAbove, EmptyHoldsNothing, GapIsBad, OthersAreBad}

pub these_bytes : WriteHasTheseBytes
unfolding read_record log_record_at write_at op_at put_at key_at
these_bytes = (refl, refl)

pub holds_above : HoldsTheWritesAbove
holds_above = (refl, refl, refl, refl, refl, refl)

pub gap_is_bad : GapIsBad
gap_is_bad flushed = leaves_gap (record { before = Write 1 (put_a ∷ []) ∷ []; first = 3; ops = put_b ∷ []; after = []; end = 1; parts = refl; ends = refl; gap = λ e. absurd cc })

pub others_are_bad : OthersAreBad
others_are_bad = (
  begins_late (omega arith),
  begins_late tt,
  straddles (record { first = 1; ops = put_a ∷ put_b ∷ []; among = inl refl; low = omega arith; high = omega arith }),
  freezes_elsewhere (record { before = Write 1 (put_a ∷ []) ∷ []; at = 2; after = []; end = 1; parts = refl; ends = refl; elsewhere = λ e. absurd cc }),
  freezes_twice (omega arith),
  ends_early (1, refl, omega arith),
)

-- no list with a member is empty
no_parts : (before : List LogRecord) (r : LogRecord) (after : List LogRecord) → [] ≡ before ++ r ∷ after → ⊥
no_parts [] r after e = cc
no_parts (x ∷ before) r after e = cc

-- an empty log
no_member : (flushed : ℕ) → BadLog flushed [] → ⊥
no_member flushed (inl h) = h.1
no_member flushed (inr (begins_late h)) = h
no_member flushed (inr (leaves_gap h)) = no_parts h.before (Write h.first h.ops) h.after h.parts
no_member flushed (inr (straddles h)) = h.among
no_member flushed (inr (freezes_elsewhere h)) = no_parts h.before (Freeze h.at) h.after h.parts
no_member flushed (inr (freezes_twice h)) = absurd (omega (arith, h))
no_member flushed (inr (ends_early h)) = absurd cc
no_member flushed (inr (is_heavy (inl h))) = let none : total_weight (frozen_ops flushed []) ≡ 0 = ap total_weight (take_none (unwrap_or (log_frozen flushed []) flushed - flushed)) in absurd (omega (arith, h, none))
no_member flushed (inr (is_heavy (inr h))) = let none : total_weight (active_ops flushed []) ≡ 0 = ap total_weight (drop_none (unwrap_or (log_frozen flushed []) flushed - flushed)) in absurd (omega (arith, h, none))

pub empty_holds : EmptyHoldsNothing
empty_holds flushed = record { good = no_member flushed; ops_are = refl; frozen_is = refl }

-- ---- the log of two memtables

abbrev count_of : LogRecord → ℕ
count_of (Write first ops) = length ops
count_of (Freeze at) = 0

one_each : (first : ℕ) (ops : List Op) → IsIn (Write first ops) two_memtables → length ops ≡ 1
one_each first ops m = elim m [
  | inl e ↦ ap count_of e
  | inr n ↦ elim n [
    | inl e ↦ absurd cc
    | inr o ↦ elim o [ inl e ↦ ap count_of e | inr none ↦ absurd none ]
  ]
]

two_good : (flushed frozen active : ℕ) → flushed ≤ 2 → length (log_freezes flushed two_memtables) ≤ 1 → total_weight (frozen_ops flushed two_memtables) ≡ frozen → total_weight (active_ops flushed two_memtables) ≡ active
    → frozen ≤ 16 → active ≤ 32 → IsGood flushed two_memtables
two_good flushed frozen active low once frozen_is active_is frozen_light active_light = record {
  begun = λ late. absurd (omega (arith, late));
  linked = (refl, (refl, tt));
  apart = λ s.
      let one = one_each s.first s.ops s.among in
      let under = s.low in
      let above = s.high in
      absurd (omega (arith, one, under, above));
  once = once;
  reaches = λ h.
      let last : 2 ≡ h.0 = ap (λ (o : Option ℕ). unwrap_or o 0) h.1 in
      let early = h.2 in
      absurd (omega (arith, last, early, low));
  frozen_light = omega (arith, frozen_is, frozen_light);
  active_light = omega (arith, active_is, active_light);
}

pub two_memtables_good : TwoMemtablesAreGood
two_memtables_good = (
  good_not_bad 0 two_memtables (two_good 0 16 16 (omega arith) (omega arith) refl refl (omega arith) (omega arith)),
  good_not_bad 1 two_memtables (two_good 1 0 16 (omega arith) (omega arith) refl refl (omega arith) (omega arith)),
  good_not_bad 2 two_memtables (two_good 2 0 0 (omega arith) (omega arith) refl refl (omega arith) (omega arith)),
)
