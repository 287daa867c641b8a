-- A good log stays good when what was frozen is flushed, whether it is cut or not.
use Rattle.std.proofs.Common.{◌≡◌, ℕ, zero, suc, ◌+◌, ◌-◌, ◌<◌, ◌≤◌, cond, ltb, List, [], ◌∷◌, ◌++◌, Option, None, Some, length, take, drop, refl, sym, ap, subst, ◌∙◌, arith, inl, inr, ◌⊎◌}
use Rattle.std.specs.Option.{unwrap_or}
use Rattle.std.proofs.lemmas.Bool.{cases_lt, le-ltb, lt-ltb}
use Rattle.std.proofs.lemmas.List.{drop-append-le, drop-drop, drop_all, length-append, length-drop}
use Rattle.lsm_key.specs.declared.op.Op.{Op}
use Rattle.lsm_key.specs.Limits.{total_weight}
use Rattle.lsm_key.specs.Sets.{IsIn}
use Rattle.lsm_edit.specs.declared.log_record.LogRecord.{LogRecord}
use Rattle.lsm_edit.specs.declared.log_record.LogRecord.TheVariants.{Write, Freeze}
use Rattle.lsm_edit.specs.Log.{IsGood, Linked, active_ops, end_of, first_freeze, frozen_ops, log_freezes, log_frozen, log_ops}
use Rattle.lsm_edit.proofs.GrownLogs.{freeze_within}
use Rattle.lsm_edit.proofs.LogLaws.{drop_none, not_above, record_end}
use Rattle.lsm_edit.proofs.LogRecordLaws.{seq_of}

-- ---- a freeze stands between two writes

writes_after : (last : ℕ) (records : List LogRecord) (first : ℕ) (ops : List Op) → Linked (Some last) records → IsIn (Write first ops) records → last < first
writes_after last [] first ops is m = absurd m
writes_after last (Write f os ∷ records) first ops is (inl same) = (let own : first ≡ f = ap seq_of same in let next = is.0 in omega (arith, own, next))
writes_after last (Write f os ∷ records) first ops is (inr m) = (let later : f + length os - 1 < first = writes_after (f + length os - 1) records first ops is.1 m in let next = is.0 in omega (arith, later, next))
writes_after last (Freeze at ∷ records) first ops is (inl same) = absurd cc
writes_after last (Freeze at ∷ records) first ops is (inr m) = writes_after last records first ops is.1 m

freezes_after : (last : ℕ) (records : List LogRecord) (z : ℕ) → Linked (Some last) records → IsIn (Freeze z) records → last ≤ z
freezes_after last [] z is m = absurd m
freezes_after last (Write f os ∷ records) z is (inl same) = absurd cc
freezes_after last (Write f os ∷ records) z is (inr m) = (let later : f + length os - 1 ≤ z = freezes_after (f + length os - 1) records z is.1 m in let next = is.0 in omega (arith, later, next))
freezes_after last (Freeze at ∷ records) z is (inl same) = (let own : z ≡ at = ap seq_of same in let here = is.0 in omega (arith, own, here))
freezes_after last (Freeze at ∷ records) z is (inr m) = freezes_after last records z is.1 m

freeze_splits : (last : ℕ) (records : List LogRecord) (z first : ℕ) (ops : List Op) → Linked (Some last) records → IsIn (Freeze z) records → IsIn (Write first ops) records → (first + length ops - 1 ≤ z) ⊎ (z < first)
freeze_splits last [] z first ops is m n = absurd m
freeze_splits last (Write f os ∷ records) z first ops is (inl same) n = absurd cc
freeze_splits last (Write f os ∷ records) z first ops is (inr m) (inl same) = inl (subst (λ (r : LogRecord). record_end r - 1 ≤ z) (sym same) (freezes_after (f + length os - 1) records z is.1 m))
freeze_splits last (Write f os ∷ records) z first ops is (inr m) (inr n) = freeze_splits (f + length os - 1) records z first ops is.1 m n
freeze_splits last (Freeze at ∷ records) z first ops is m (inl same) = absurd cc
freeze_splits last (Freeze at ∷ records) z first ops is (inl same) (inr n) = inr (subst (λ (k : ℕ). k < first) (sym (ap seq_of same ∙ is.0)) (writes_after last records first ops is.1 n))
freeze_splits last (Freeze at ∷ records) z first ops is (inr m) (inr n) = freeze_splits last records z first ops is.1 m n

-- a freeze above a sequence is in the log
pub freeze_in : (flushed : ℕ) (records : List LogRecord) (z : ℕ) → log_frozen flushed records ≡ Some z → IsIn (Freeze z) records
freeze_in flushed [] z is = absurd cc
freeze_in flushed (Write f os ∷ records) z is = inr (freeze_in flushed records z is)
freeze_in flushed (Freeze at ∷ records) z is = by_test (freeze_in flushed records z) (cases_lt flushed at)
  where
    by_test : (log_frozen flushed records ≡ Some z → IsIn (Freeze z) records) → (flushed < at) ⊎ (at ≤ flushed) → IsIn (Freeze z) (Freeze at ∷ records)
    by_test rest (inl lt) =
        let same : Some at ≡ Some z = ap (λ b. first_freeze (cond b (at ∷ []) [] ++ log_freezes flushed records)) (sym (lt-ltb flushed at lt)) ∙ is in
        inl (ap (λ (n : ℕ). Freeze n) (sym (ap (λ (o : Option ℕ). unwrap_or o 0) same)))
    by_test rest (inr le) = inr (rest (ap (λ b. first_freeze (cond b (at ∷ []) [] ++ log_freezes flushed records)) (sym (le-ltb flushed at le)) ∙ is))

-- ---- what is held over a later sequence

-- what is left behind the front
drop_past : (n : ℕ) (xs ys : List Op) → length xs ≤ n → drop n (xs ++ ys) ≡ drop (n - length xs) ys
drop_past n [] ys le = ap (λ (k : ℕ). drop k ys) (omega arith)
drop_past zero (x ∷ xs) ys le = absurd (omega (arith, le))
drop_past (suc n) (x ∷ xs) ys le = drop_past n xs ys (omega (arith, le)) ∙ ap (λ (k : ℕ). drop k ys) (omega arith)

ops_later : (flushed later last : ℕ) (records : List LogRecord) → flushed ≤ later → Linked (Some last) records → log_ops later records ≡ drop ((later - flushed) - (last - flushed)) (log_ops flushed records)
ops_later flushed later last [] le is = sym (drop_none ((later - flushed) - (last - flushed)))
ops_later flushed later last (Write f os ∷ records) le is =
    let xs = drop (flushed + 1 - f) os in
    let ys = log_ops flushed records in
    let n : ℕ = (later - flushed) - (last - flushed) in
    let rest = ops_later flushed later (f + length os - 1) records le is.1 in
    let next = is.0 in
    let len = length-drop (flushed + 1 - f) os in
    elim (cases_lt (length xs) n) [
      | inl lt ↦
          let none : drop (later + 1 - f) os ≡ [] = drop_all (later + 1 - f) os (omega (arith, lt, len, next, le)) in
          let left : (later - flushed) - (f + length os - 1 - flushed) ≡ n - length xs = omega (arith, lt, len, next, le) in
          ap (λ (l : List Op). l ++ log_ops later records) none ∙ rest ∙ ap (λ (k : ℕ). drop k ys) left ∙ sym (drop_past n xs ys (omega (arith, lt)))
      | inr short ↦
          let zero_left : (later - flushed) - (f + length os - 1 - flushed) ≡ 0 = omega (arith, short, len, next, le) in
          let sum : later + 1 - f ≡ (flushed + 1 - f) + n = omega (arith, next, le) in
          ap (λ (l : List Op). drop (later + 1 - f) os ++ l) (rest ∙ ap (λ (k : ℕ). drop k ys) zero_left)
          ∙ ap (λ (l : List Op). l ++ ys) (ap (λ (k : ℕ). drop k os) sum ∙ sym (drop-drop n (flushed + 1 - f) os))
          ∙ sym (drop-append-le n xs ys short)
    ]
ops_later flushed later last (Freeze at ∷ records) le is = ops_later flushed later last records le is.1

-- the same from the first record on, of which nothing is above the later sequence
head_later : (flushed later f : ℕ) (os : List Op) (records : List LogRecord) → flushed ≤ later → f ≤ flushed + 1 → f + length os - 1 ≤ later → Linked (Some (f + length os - 1)) records
    → log_ops later (Write f os ∷ records) ≡ drop (later - flushed) (log_ops flushed (Write f os ∷ records))
head_later flushed later f os records le low ends is =
    let xs = drop (flushed + 1 - f) os in
    let ys = log_ops flushed records in
    let len = length-drop (flushed + 1 - f) os in
    let none : drop (later + 1 - f) os ≡ [] = drop_all (later + 1 - f) os (omega (arith, ends)) in
    let short : length xs ≤ later - flushed = omega (arith, len, ends, low, le) in
    let left : (later - flushed) - (f + length os - 1 - flushed) ≡ (later - flushed) - length xs = omega (arith, len, ends, low, le) in
    ap (λ (l : List Op). l ++ log_ops later records) none ∙ ops_later flushed later (f + length os - 1) records le is ∙ ap (λ (k : ℕ). drop k ys) left ∙ sym (drop_past (later - flushed) xs ys short)

-- ---- freezes above a sequence

freeze_len : (flushed at : ℕ) → flushed < at → length (cond (ltb flushed at) (at ∷ []) []) ≡ 1
freeze_len flushed at lt = ap (λ b. length (cond b (at ∷ []) [])) (lt-ltb flushed at lt)

pub one_freeze : (flushed : ℕ) (records : List LogRecord) (z : ℕ) → flushed < z → IsIn (Freeze z) records → 1 ≤ length (log_freezes flushed records)
one_freeze flushed [] z lt m = absurd m
one_freeze flushed (Write f os ∷ records) z lt (inl same) = absurd cc
one_freeze flushed (Write f os ∷ records) z lt (inr m) = one_freeze flushed records z lt m
one_freeze flushed (Freeze at ∷ records) z lt (inl same) = (let own : z ≡ at = ap seq_of same in omega (arith, length-append (cond (ltb flushed at) (at ∷ []) []) (log_freezes flushed records), freeze_len flushed at (omega (arith, own, lt))))
one_freeze flushed (Freeze at ∷ records) z lt (inr m) = (let rest = one_freeze flushed records z lt m in omega (arith, rest, length-append (cond (ltb flushed at) (at ∷ []) []) (log_freezes flushed records)))

two_freezes : (flushed : ℕ) (records : List LogRecord) (z w : ℕ) → flushed < z → z < w → IsIn (Freeze z) records → IsIn (Freeze w) records → 2 ≤ length (log_freezes flushed records)
two_freezes flushed [] z w lt more m n = absurd m
two_freezes flushed (Write f os ∷ records) z w lt more (inl same) n = absurd cc
two_freezes flushed (Write f os ∷ records) z w lt more (inr m) (inl same) = absurd cc
two_freezes flushed (Write f os ∷ records) z w lt more (inr m) (inr n) = two_freezes flushed records z w lt more m n
two_freezes flushed (Freeze at ∷ records) z w lt more (inl same) (inl other) = (let a : z ≡ at = ap seq_of same in let b : w ≡ at = ap seq_of other in absurd (omega (arith, a, b, more)))
two_freezes flushed (Freeze at ∷ records) z w lt more (inl same) (inr n) =
    let a : z ≡ at = ap seq_of same in
    let rest = one_freeze flushed records w (omega (arith, lt, more)) n in
    omega (arith, rest, length-append (cond (ltb flushed at) (at ∷ []) []) (log_freezes flushed records), freeze_len flushed at (omega (arith, a, lt)))
two_freezes flushed (Freeze at ∷ records) z w lt more (inr m) (inl same) =
    let a : w ≡ at = ap seq_of same in
    let rest = one_freeze flushed records z lt m in
    omega (arith, rest, length-append (cond (ltb flushed at) (at ∷ []) []) (log_freezes flushed records), freeze_len flushed at (omega (arith, a, lt, more)))
two_freezes flushed (Freeze at ∷ records) z w lt more (inr m) (inr n) = (let rest = two_freezes flushed records z w lt more m n in omega (arith, rest, length-append (cond (ltb flushed at) (at ∷ []) []) (log_freezes flushed records)))

-- what is frozen is above
pub frozen_above : (flushed : ℕ) (records : List LogRecord) (z : ℕ) → log_frozen flushed records ≡ Some z → flushed < z
frozen_above flushed [] z is = absurd cc
frozen_above flushed (Write f os ∷ records) z is = frozen_above flushed records z is
frozen_above flushed (Freeze at ∷ records) z is = by_test (frozen_above flushed records z) (cases_lt flushed at)
  where
    by_test : (log_frozen flushed records ≡ Some z → flushed < z) → (flushed < at) ⊎ (at ≤ flushed) → flushed < z
    by_test rest (inl lt) =
        let same : Some at ≡ Some z = ap (λ b. first_freeze (cond b (at ∷ []) [] ++ log_freezes flushed records)) (sym (lt-ltb flushed at lt)) ∙ is in
        let own : at ≡ z = ap (λ (o : Option ℕ). unwrap_or o 0) same in
        omega (arith, own, lt)
    by_test rest (inr le) = rest (ap (λ b. first_freeze (cond b (at ∷ []) [] ++ log_freezes flushed records)) (sym (le-ltb flushed at le)) ∙ is)

-- ---- a flush of what is frozen

nothing_frozen : (flushed : ℕ) (records : List LogRecord) (z : ℕ) → length (log_freezes flushed records) ≤ 1 → log_frozen flushed records ≡ Some z → log_freezes z records ≡ []
nothing_frozen flushed records z once is = by_list (log_freezes z records) refl
  where
    by_list : (l : List ℕ) → log_freezes z records ≡ l → log_freezes z records ≡ []
    by_list [] same = same
    by_list (w ∷ ws) same =
        let at : log_frozen z records ≡ Some w = ap first_freeze same in
        let two = two_freezes flushed records z w (frozen_above flushed records z is) (frozen_above z records w at) (freeze_in flushed records z is) (freeze_in z records w at) in
        absurd (omega (arith, two, once))

-- The log is good over the end of what was frozen, and holds the operations after it.
pub flush_good : (flushed : ℕ) (records : List LogRecord) (z : ℕ) → IsGood flushed records → log_frozen flushed records ≡ Some z
    → IsGood z records × (log_ops z records ≡ drop (z - flushed) (log_ops flushed records)) × (log_frozen z records ≡ None)
flush_good flushed [] z good is = absurd cc
flush_good flushed (Freeze at ∷ records) z good is = absurd (good.begun tt)
flush_good flushed (Write f os ∷ records) z good is =
    let above = frozen_above flushed (Write f os ∷ records) z is in
    let begun = good.begun in
    let low : f ≤ flushed + 1 = not_above (flushed + 1) f begun in
    let none : log_freezes z (Write f os ∷ records) ≡ [] = nothing_frozen flushed (Write f os ∷ records) z good.once is in
    let last : ℕ = f + length os - 1 in
    let m = freeze_in flushed records z is in
    let first_ends : last ≤ z = freezes_after last records z good.linked m in
    let len = length-drop (flushed + 1 - f) os in
    let ops : log_ops z (Write f os ∷ records) ≡ drop (z - flushed) (log_ops flushed (Write f os ∷ records)) = head_later flushed z f os records (omega (arith, above)) low first_ends good.linked in
    let active_are : active_ops z (Write f os ∷ records) ≡ active_ops flushed (Write f os ∷ records) =
    ap (λ (l : List ℕ). drop (unwrap_or (first_freeze l) z - z) (log_ops z (Write f os ∷ records))) none
    ∙ ap (λ (n : ℕ). drop n (log_ops z (Write f os ∷ records))) (same_none z) ∙ ops
    ∙ ap (λ (o : Option ℕ). drop (unwrap_or o flushed - flushed) (log_ops flushed (Write f os ∷ records))) (sym is) in
    let frozen_are : frozen_ops z (Write f os ∷ records) ≡ [] =
    ap (λ (l : List ℕ). take (unwrap_or (first_freeze l) z - z) (log_ops z (Write f os ∷ records))) none ∙ ap (λ (n : ℕ). take n (log_ops z (Write f os ∷ records))) (same_none z) in
    let light = good.active_light in
    let weighs : total_weight (active_ops z (Write f os ∷ records)) ≡ total_weight (active_ops flushed (Write f os ∷ records)) = ap total_weight active_are in
    let weighs_none : total_weight (frozen_ops z (Write f os ∷ records)) ≡ 0 = ap total_weight frozen_are in
    let no_freeze : length (log_freezes z (Write f os ∷ records)) ≡ 0 = ap length none in (
      record {
        begun = λ h. absurd (omega (arith, h, low, above));
        linked = good.linked;
        apart = λ s. by_place s.first s.ops s.low s.high m first_ends s.among;
        once = omega (arith, no_freeze);
        reaches = λ h.
            let e : ℕ = unwrap_or (end_of records) last in
            let end_is : e ≡ h.0 = ap (λ (o : Option ℕ). unwrap_or o 0) h.1 in
            let within : z ≤ e = freeze_within flushed last records z good.linked is in
            let early = h.2 in
            absurd (omega (arith, end_is, within, early));
        frozen_light = omega (arith, weighs_none);
        active_light = omega (arith, weighs, light);
      },
      ops,
      ap first_freeze none,
    )
  where
    same_none : (n : ℕ) → n - n ≡ 0
    same_none n = omega arith

    by_place : (first : ℕ) (ops : List Op) → first ≤ z → z + 1 < first + length ops → IsIn (Freeze z) records → f + length os - 1 ≤ z → IsIn (Write first ops) (Write f os ∷ records) → ⊥
    by_place first ops low high m ends (inl same) = (let e : first + length ops ≡ f + length os = ap record_end same in omega (arith, e, high, ends))
    by_place first ops low high m ends (inr n) = elim (freeze_splits (f + length os - 1) records z first ops good.linked m n) [
      | inl before ↦ omega (arith, before, high)
      | inr after ↦ omega (arith, after, low)
    ]
