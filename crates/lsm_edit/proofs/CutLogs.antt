-- A good log from which first records are cut that hold nothing is good, and holds the same.
use Rattle.std.proofs.Common.{◌≡◌, ℕ, ◌+◌, ◌-◌, ◌<◌, ◌≤◌, List, [], ◌∷◌, ◌++◌, Option, None, Some, length, take, drop, refl, sym, ap, ◌∙◌, arith}
use Rattle.std.specs.Option.{unwrap_or}
use Rattle.std.proofs.lemmas.List.Concat.{flat_map-append}
use Rattle.lsm_key.specs.declared.op.Op.{Op}
use Rattle.lsm_key.specs.Limits.{total_weight}
use Rattle.lsm_key.proofs.Membership.{IsIn-append_right}
use Rattle.lsm_edit.specs.declared.log_record.LogRecord.{LogRecord}
use Rattle.lsm_edit.specs.declared.log_record.LogRecord.TheVariants.{Write, Freeze}
use Rattle.lsm_edit.specs.Log.{IsGood, Linked, active_ops, end_of, first_freeze, freeze_above, frozen_ops, log_freezes, log_frozen, log_ops, ops_above}
use Rattle.lsm_edit.proofs.LogLaws.{linked_writes, no_end}

-- what is behind the front is linked by itself, from a write on
linked_behind : (o : Option ℕ) (before : List LogRecord) (first : ℕ) (ops : List Op) (records : List LogRecord) → Linked o (before ++ Write first ops ∷ records) → Linked None (Write first ops ∷ records)
linked_behind None [] first ops records is = is
linked_behind (Some last) [] first ops records is = is.1
linked_behind None (Write f os ∷ before) first ops records is = linked_behind (Some (f + length os - 1)) before first ops records is
linked_behind (Some last) (Write f os ∷ before) first ops records is = linked_behind (Some (f + length os - 1)) before first ops records is.1
linked_behind None (Freeze at ∷ before) first ops records is = linked_behind None before first ops records is
linked_behind (Some last) (Freeze at ∷ before) first ops records is = linked_behind (Some last) before first ops records is.1

-- the end is that of what is behind
end_behind : (before : List LogRecord) (first : ℕ) (ops : List Op) (records : List LogRecord) → end_of (before ++ Write first ops ∷ records) ≡ end_of (Write first ops ∷ records)
end_behind [] first ops records = refl
end_behind (Write f os ∷ before) first ops records = ap (λ (o : Option ℕ). Some (unwrap_or o (f + length os - 1))) (end_behind before first ops records)
end_behind (Freeze at ∷ before) first ops records = end_behind before first ops records

-- The records before a write are cut: they hold nothing, and none of their writes ends above.
pub cut_good : (flushed : ℕ) (before : List LogRecord) (first : ℕ) (ops : List Op) (records : List LogRecord) → IsGood flushed (before ++ Write first ops ∷ records)
    → log_ops flushed before ≡ [] → log_freezes flushed before ≡ [] → ((end : ℕ) → end_of before ≡ Some end → end ≤ flushed)
    → IsGood flushed (Write first ops ∷ records) × (log_ops flushed (Write first ops ∷ records) ≡ log_ops flushed (before ++ Write first ops ∷ records)) × (log_frozen flushed (Write first ops ∷ records) ≡ log_frozen flushed (before ++ Write first ops ∷ records))
cut_good flushed before first ops records good no_ops no_freezes low =
    let whole = before ++ Write first ops ∷ records in
    let left = Write first ops ∷ records in
    let held : log_ops flushed whole ≡ log_ops flushed left = flat_map-append (ops_above flushed) before left ∙ ap (λ (l : List Op). l ++ log_ops flushed left) no_ops in
    let freezes : log_freezes flushed whole ≡ log_freezes flushed left = flat_map-append (freeze_above flushed) before left ∙ ap (λ (l : List ℕ). l ++ log_freezes flushed left) no_freezes in
    let frozen : log_frozen flushed whole ≡ log_frozen flushed left = ap first_freeze freezes in
    let frozen_are : frozen_ops flushed whole ≡ frozen_ops flushed left =
    ap (λ (o : Option ℕ). take (unwrap_or o flushed - flushed) (log_ops flushed whole)) frozen ∙ ap (λ (l : List Op). take (unwrap_or (log_frozen flushed left) flushed - flushed) l) held in
    let active_are : active_ops flushed whole ≡ active_ops flushed left =
    ap (λ (o : Option ℕ). drop (unwrap_or o flushed - flushed) (log_ops flushed whole)) frozen ∙ ap (λ (l : List Op). drop (unwrap_or (log_frozen flushed left) flushed - flushed) l) held in
    let frozen_weighs : total_weight (frozen_ops flushed whole) ≡ total_weight (frozen_ops flushed left) = ap total_weight frozen_are in
    let active_weighs : total_weight (active_ops flushed whole) ≡ total_weight (active_ops flushed left) = ap total_weight active_are in
    let frozen_light = good.frozen_light in
    let active_light = good.active_light in
    let once = good.once in
    let count : length (log_freezes flushed whole) ≡ length (log_freezes flushed left) = ap length freezes in (
      record {
        begun = begins before good low;
        linked = linked_behind None before first ops records good.linked;
        apart = λ s. good.apart (record { first = s.first; ops = s.ops; among = IsIn-append_right (Write s.first s.ops) before left s.among; low = s.low; high = s.high });
        once = omega (arith, count, once);
        reaches = λ h. good.reaches (h.0, end_behind before first ops records ∙ h.1, h.2);
        frozen_light = omega (arith, frozen_weighs, frozen_light);
        active_light = omega (arith, active_weighs, active_light);
      },
      sym held,
      sym frozen,
    )
  where
    begins : (front : List LogRecord) → IsGood flushed (front ++ Write first ops ∷ records) → ((end : ℕ) → end_of front ≡ Some end → end ≤ flushed) → flushed + 1 < first → ⊥
    begins [] g below late = g.begun late
    begins (Freeze at ∷ front) g below late = g.begun tt
    begins (Write f os ∷ front) g below late =
        let end : ℕ = unwrap_or (end_of front) (f + length os - 1) in
        let next : first ≡ end + 1 = linked_writes (Write f os ∷ front) None first ops records end g.linked (no_end (end_of (Write f os ∷ front))) in
        let under : end ≤ flushed = below end refl in
        omega (arith, next, under, late)
