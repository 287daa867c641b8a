-- A good log of which nothing is frozen is good over its last sequence, and holds nothing: a flush of the active memtable.
use Rattle.std.proofs.Common.{◌≡◌, ℕ, ◌+◌, ◌-◌, ◌<◌, ◌≤◌, List, [], ◌∷◌, Option, None, Some, length, take, drop, refl, ap, ◌∙◌, arith, inl, inr}
use Rattle.std.specs.Option.{unwrap_or}
use Rattle.std.proofs.lemmas.List.{length-append, length-drop, nil_from_length}
use Rattle.lsm_key.specs.declared.op.Op.{Op}
use Rattle.lsm_key.specs.Limits.{total_weight}
use Rattle.lsm_key.specs.Sets.{IsIn}
use Rattle.lsm_edit.specs.declared.log_record.LogRecord.{LogRecord}
use Rattle.lsm_edit.specs.declared.log_record.LogRecord.TheVariants.{Write, Freeze}
use Rattle.lsm_edit.specs.Log.{IsGood, Linked, active_ops, end_of, first_freeze, frozen_ops, log_freezes, log_frozen, log_ops}
use Rattle.lsm_edit.specs.LogLaws.{AreRecords}
use Rattle.lsm_edit.proofs.GrownLogs.{end_after, ends_on, good_count, ops_count}
use Rattle.lsm_edit.proofs.LogLaws.{drop_none, not_above, record_end, take_none}
use Rattle.lsm_edit.proofs.FlushedLogs.{freeze_in, frozen_above, one_freeze}

-- each write ends by the end
writes_within : (last : ℕ) (records : List LogRecord) (first : ℕ) (ops : List Op) → Linked (Some last) records → IsIn (Write first ops) records → first + length ops - 1 ≤ end_after last records
writes_within last [] first ops is m = absurd m
writes_within last (Write f os ∷ records) first ops is (inl same) =
    let own : first + length ops ≡ f + length os = ap record_end same in
    let on : f + length os - 1 ≤ end_after (f + length os - 1) records = ends_on (f + length os - 1) records is.1 in
    omega (arith, own, on)
writes_within last (Write f os ∷ records) first ops is (inr m) = writes_within (f + length os - 1) records first ops is.1 m
writes_within last (Freeze at ∷ records) first ops is (inl same) = absurd cc
writes_within last (Freeze at ∷ records) first ops is (inr m) = writes_within last records first ops is.1 m

no_freeze_left : (flushed later : ℕ) (records : List LogRecord) → flushed ≤ later → log_freezes flushed records ≡ [] → log_freezes later records ≡ []
no_freeze_left flushed later records le none = by_list (log_freezes later records) refl
  where
    by_list : (l : List ℕ) → log_freezes later records ≡ l → log_freezes later records ≡ []
    by_list [] same = same
    by_list (w ∷ ws) same =
        let at : log_frozen later records ≡ Some w = ap first_freeze same in
        let above = frozen_above later records w at in
        let one = one_freeze flushed records w (omega (arith, le, above)) (freeze_in later records w at) in
        let count : length (log_freezes flushed records) ≡ 0 = ap length none in
        absurd (omega (arith, one, count))

pub empty_good : (flushed : ℕ) (records : List LogRecord) → IsGood flushed records → AreRecords records → log_freezes flushed records ≡ [] → (end : ℕ) → end ≡ flushed + length (log_ops flushed records)
    → IsGood end records × (log_ops end records ≡ []) × (log_frozen end records ≡ None)
empty_good flushed [] good sound none end is = (
  record {
    begun = λ h. h;
    linked = tt;
    apart = λ s. s.among;
    once = omega arith;
    reaches = λ h. absurd (no_end h.0 h.1);
    frozen_light = (let w : total_weight (frozen_ops end []) ≡ 0 = ap total_weight (take_none (unwrap_or (log_frozen end []) end - end)) in omega (arith, w));
    active_light = (let w : total_weight (active_ops end []) ≡ 0 = ap total_weight (drop_none (unwrap_or (log_frozen end []) end - end)) in omega (arith, w));
  },
  refl,
  refl,
)
  where
    no_end : (e : ℕ) → end_of [] ≡ Some e → ⊥
    no_end e h = cc
empty_good flushed (Freeze at ∷ records) good sound none end is = absurd (good.begun tt)
empty_good flushed (Write f os ∷ records) good sound none end is =
    let all = Write f os ∷ records in
    let last : ℕ = f + length os - 1 in
    let e : ℕ = end_after last records in
    let c = good_count flushed all good sound e refl in
    let low = c.0 in
    let count = c.1 in
    let same : e ≡ end = omega (arith, low, count, is) in
    let on : last ≤ e = ends_on last records good.linked in
    let begins : f ≤ flushed + 1 = not_above (flushed + 1) f good.begun in
    let rest : length (log_ops end records) ≡ (e - end) - (last - end) = ops_count end last records good.linked in
    let no_length : length (log_ops end all) ≡ 0 = omega (arith, same, on, rest, length-append (drop (end + 1 - f) os) (log_ops end records), length-drop (end + 1 - f) os) in
    let ops : log_ops end all ≡ [] = nil_from_length (log_ops end all) no_length in
    let no_freezes : log_freezes end all ≡ [] = no_freeze_left flushed end all (omega (arith, low, same)) none in
    let frozen_weighs : total_weight (frozen_ops end all) ≡ 0 = ap total_weight (ap (take (unwrap_or (log_frozen end all) end - end)) ops ∙ take_none (unwrap_or (log_frozen end all) end - end)) in
    let active_weighs : total_weight (active_ops end all) ≡ 0 = ap total_weight (ap (drop (unwrap_or (log_frozen end all) end - end)) ops ∙ drop_none (unwrap_or (log_frozen end all) end - end)) in
    let freezes : length (log_freezes end all) ≡ 0 = ap length no_freezes in (
      record {
        begun = λ h. absurd (omega (arith, h, begins, low, same));
        linked = good.linked;
        apart = λ s. by_place s.first s.ops s.low s.high e on same s.among;
        once = omega (arith, freezes);
        reaches = λ h. (let at : e ≡ h.0 = ap (λ (o : Option ℕ). unwrap_or o 0) h.1 in let early = h.2 in absurd (omega (arith, at, early, same)));
        frozen_light = omega (arith, frozen_weighs);
        active_light = omega (arith, active_weighs);
      },
      ops,
      ap first_freeze no_freezes,
    )
  where
    by_place : (first : ℕ) (ops : List Op) → first ≤ end → end + 1 < first + length ops → (e : ℕ) → f + length os - 1 ≤ end_after (f + length os - 1) records → end_after (f + length os - 1) records ≡ end → IsIn (Write first ops) (Write f os ∷ records) → ⊥
    by_place first ops low high e on same (inl own) = (let own_is : first + length ops ≡ f + length os = ap record_end own in omega (arith, own_is, high, on, same))
    by_place first ops low high e on same (inr m) = (let within = writes_within (f + length os - 1) records first ops good.linked m in omega (arith, within, high, same))
