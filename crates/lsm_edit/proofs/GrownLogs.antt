-- A good log with one more write is good, and holds one batch more.
use Rattle.std.proofs.Common.{◌≡◌, ℕ, ◌+◌, ◌-◌, ◌<◌, ◌≤◌, cond, ltb, List, [], ◌∷◌, ◌++◌, Option, None, Some, length, take, drop, refl, sym, ap, subst, ◌∙◌, arith, inl, inr, ◌⊎◌}
use Rattle.std.specs.Option.{unwrap_or, option_or}
use Rattle.std.proofs.lemmas.Bool.{cases_lt, le-ltb, lt-ltb}
use Rattle.std.proofs.Math.Seq.{drop-length, take-length}
use Rattle.std.proofs.lemmas.List.{append-nil, drop-append-le, take-append-le, length-append, length-drop}
use Rattle.std.proofs.lemmas.List.Concat.{flat_map-append}
use Rattle.std.proofs.lemmas.List.Sums.{sum_by-append}
use Rattle.lsm_key.specs.declared.op.Op.{Op}
use Rattle.lsm_key.specs.declared.limits.TheConstants.{MAX_MEMTABLE_WEIGHT}
use Rattle.lsm_key.specs.Limits.{total_weight, weight_of}
use Rattle.lsm_key.specs.Sets.{IsIn}
use Rattle.lsm_key.proofs.Membership.{IsIn-append_cases}
use Rattle.lsm_edit.specs.declared.log_record.LogRecord.{LogRecord}
use Rattle.lsm_edit.specs.declared.log_record.LogRecord.TheVariants.{Write, Freeze}
use Rattle.lsm_edit.specs.Log.{BeginsLate, EndsEarly, IsGood, Linked, Straddles, active_ops, end_of, first_freeze, freeze_above, frozen_ops, log_freezes, log_frozen, log_ops, ops_above}
use Rattle.lsm_edit.specs.LogLaws.{AreRecords}
use Rattle.lsm_edit.proofs.LogLaws.{end_freeze, end_write, later, not_above, onward}
use Rattle.lsm_edit.proofs.LogRecordLaws.{seq_of}

-- ---- how far records reach, and how many operations they have above a sequence

abbrev pub end_after : ℕ → List LogRecord → ℕ
end_after last records = unwrap_or (end_of records) last

pub ends_on : (last : ℕ) (records : List LogRecord) → Linked (Some last) records → last ≤ end_after last records
ends_on last [] is = omega arith
ends_on last (Write first ops ∷ records) is = (let e : ℕ = end_after (first + length ops - 1) records in let on : first + length ops - 1 ≤ e = ends_on (first + length ops - 1) records is.1 in let next = is.0 in omega (arith, on, next))
ends_on last (Freeze at ∷ records) is = ends_on last records is.1

pub ops_count : (flushed last : ℕ) (records : List LogRecord) → Linked (Some last) records → length (log_ops flushed records) ≡ (end_after last records - flushed) - (last - flushed)
ops_count flushed last [] is = omega arith
ops_count flushed last (Write first ops ∷ records) is =
    let on : first + length ops - 1 ≤ end_after (first + length ops - 1) records = ends_on (first + length ops - 1) records is.1 in
    let rest = ops_count flushed (first + length ops - 1) records is.1 in
    let next = is.0 in
    omega (arith, on, rest, next, length-append (drop (flushed + 1 - first) ops) (log_ops flushed records), length-drop (flushed + 1 - first) ops)
ops_count flushed last (Freeze at ∷ records) is = ops_count flushed last records is.1

-- the last sequence of a good log is that of its last operation above the flushed one
pub good_count : (flushed : ℕ) (records : List LogRecord) → IsGood flushed records → AreRecords records → (end : ℕ) → end_of records ≡ Some end → (flushed ≤ end) × (length (log_ops flushed records) ≡ end - flushed)
good_count flushed [] good sound end is = absurd cc
good_count flushed (Freeze at ∷ records) good sound end is = absurd (good.begun tt)
good_count flushed (Write first ops ∷ records) good sound end is =
    let last : ℕ = first + length ops - 1 in
    let e : ℕ = end_after last records in
    let same : e ≡ end = ap (λ (o : Option ℕ). unwrap_or o 0) is in
    let own = sound (Write first ops) (inl refl) in
    let some = own.0 in
    let one = own.1 in
    let on : last ≤ e = ends_on last records good.linked in
    let rest : length (log_ops flushed records) ≡ (e - flushed) - (last - flushed) = ops_count flushed last records good.linked in
    let low : first ≤ flushed + 1 = not_above (flushed + 1) first good.begun in
    let reached : flushed ≤ end = not_above end flushed (λ lt. good.reaches (end, is, lt)) in
    (reached, omega (arith, same, some, one, on, rest, low, reached, length-append (drop (flushed + 1 - first) ops) (log_ops flushed records), length-drop (flushed + 1 - first) ops))

-- a freeze above is at most at the last sequence
pub freeze_within : (flushed last : ℕ) (records : List LogRecord) (z : ℕ) → Linked (Some last) records → log_frozen flushed records ≡ Some z → z ≤ end_after last records
freeze_within flushed last [] z is at = absurd cc
freeze_within flushed last (Write first ops ∷ records) z is at = freeze_within flushed (first + length ops - 1) records z is.1 at
freeze_within flushed last (Freeze n ∷ records) z is at = by_test (freeze_within flushed last records z is.1) (cases_lt flushed n)
  where
    by_test : (log_frozen flushed records ≡ Some z → z ≤ end_after last records) → (flushed < n) ⊎ (n ≤ flushed) → z ≤ end_after last records
    by_test rest (inl lt) =
        let same : Some n ≡ Some z = ap (λ b. first_freeze (cond b (n ∷ []) [] ++ log_freezes flushed records)) (sym (lt-ltb flushed n lt)) ∙ at in
        let z_is : n ≡ z = ap (λ (o : Option ℕ). unwrap_or o 0) same in
        let on : last ≤ end_after last records = ends_on last records is.1 in
        let n_is = is.0 in
        omega (arith, z_is, on, n_is)
    by_test rest (inr le) = rest (ap (λ b. first_freeze (cond b (n ∷ []) [] ++ log_freezes flushed records)) (sym (le-ltb flushed n le)) ∙ at)

-- ---- one more record behind the others

pub linked_more : (o : Option ℕ) (records : List LogRecord) (r : LogRecord) → Linked o records → Linked (later o records) (r ∷ []) → Linked o (records ++ r ∷ [])
linked_more o [] r is next = next
linked_more None (Write first ops ∷ records) r is next = linked_more (Some (first + length ops - 1)) records r is (subst (λ (x : Option ℕ). Linked x (r ∷ [])) (sym (onward (first + length ops - 1) records None)) next)
linked_more None (Freeze at ∷ records) r is next = linked_more None records r is next
linked_more (Some last) (Write first ops ∷ records) r is next = (is.0, linked_more (Some (first + length ops - 1)) records r is.1 (subst (λ (x : Option ℕ). Linked x (r ∷ [])) (sym (onward (first + length ops - 1) records (Some last))) next))
linked_more (Some last) (Freeze at ∷ records) r is next = (is.0, linked_more (Some last) records r is.1 next)

-- ---- one more write

module _ (flushed : ℕ) (records : List LogRecord) (good : IsGood flushed records) (sound : AreRecords records) (more : List Op) (some : 1 ≤ length more) where
  -- the last sequence that the log holds
  abbrev held : ℕ
  held = flushed + length (log_ops flushed records)

  abbrev grown : List LogRecord
  grown = records ++ Write (held + 1) more ∷ []

  ends_held : (end : ℕ) → end_of records ≡ Some end → end ≡ held
  ends_held end is = let c = good_count flushed records good sound end is in let low = c.0 in let count = c.1 in omega (arith, low, count)

  grown_ops : log_ops flushed grown ≡ log_ops flushed records ++ more
  grown_ops =
      flat_map-append (ops_above flushed) records (Write (held + 1) more ∷ [])
      ∙ ap (λ (l : List Op). log_ops flushed records ++ l) (append-nil (drop (flushed + 1 - (held + 1)) more) ∙ ap (λ (n : ℕ). drop n more) zero_is)
    where
      zero_is : flushed + 1 - (held + 1) ≡ 0
      zero_is = omega arith

  grown_freezes : log_freezes flushed grown ≡ log_freezes flushed records
  grown_freezes = flat_map-append (freeze_above flushed) records (Write (held + 1) more ∷ []) ∙ append-nil (log_freezes flushed records)

  cut_within : (z : Option ℕ) → log_frozen flushed records ≡ z → unwrap_or z flushed - flushed ≤ length (log_ops flushed records)
  cut_within None is = omega arith
  cut_within (Some z) is = by_records records refl is
    where
      by_records : (rs : List LogRecord) → records ≡ rs → log_frozen flushed rs ≡ Some z → z - flushed ≤ length (log_ops flushed records)
      by_records [] same at = absurd cc
      by_records (Freeze n ∷ rs) same at = absurd ((subst (IsGood flushed) same good).begun tt)
      by_records (Write first ops ∷ rs) same at =
          let g = subst (IsGood flushed) same good in
          let within : z ≤ end_after (first + length ops - 1) rs = freeze_within flushed (first + length ops - 1) rs z g.linked at in
          let c = ends_held (end_after (first + length ops - 1) rs) (ap end_of same) in
          omega (arith, within, c)

  write_linked : Linked None grown
  write_linked = linked_more None records (Write (held + 1) more) good.linked (by_end (end_of records) refl)
    where
      by_end : (o : Option ℕ) → end_of records ≡ o → Linked (later None records) (Write (held + 1) more ∷ [])
      by_end None is = subst (λ (x : Option ℕ). Linked (option_or x None) (Write (held + 1) more ∷ [])) (sym is) tt
      by_end (Some end) is = subst (λ (x : Option ℕ). Linked (option_or x None) (Write (held + 1) more ∷ [])) (sym is) (ap (λ (n : ℕ). n + 1) (sym (ends_held end is)), tt)

  write_begun : (rs : List LogRecord) → records ≡ rs → BeginsLate flushed (rs ++ Write (held + 1) more ∷ []) → ⊥
  write_begun [] same h = let count : length (log_ops flushed records) ≡ 0 = ap (λ (l : List LogRecord). length (log_ops flushed l)) same in omega (arith, h, count)
  write_begun (Write first ops ∷ rs) same h = (subst (IsGood flushed) same good).begun h
  write_begun (Freeze at ∷ rs) same h = (subst (IsGood flushed) same good).begun tt

  write_apart : Straddles flushed grown → ⊥
  write_apart s = by_place (IsIn-append_cases (Write s.first s.ops) records (Write (held + 1) more ∷ []) s.among)
    where
      by_place : IsIn (Write s.first s.ops) records ⊎ IsIn (Write s.first s.ops) (Write (held + 1) more ∷ []) → ⊥
      by_place (inl m) = good.apart (record { first = s.first; ops = s.ops; among = m; low = s.low; high = s.high })
      by_place (inr (inl same)) = (let first_is : s.first ≡ held + 1 = ap seq_of same in let low = s.low in omega (arith, first_is, low))
      by_place (inr (inr none)) = none

  write_reaches : EndsEarly flushed grown → ⊥
  write_reaches h =
      let is : held + 1 + length more - 1 ≡ h.0 = ap (λ (o : Option ℕ). unwrap_or o 0) (sym (end_write records (held + 1) more) ∙ h.1) in
      let early = h.2 in
      omega (arith, is, early)

  -- the log is good, and holds the batch after the operations before it; what is frozen stays
  pub write_good : total_weight (active_ops flushed records) + total_weight more ≤ MAX_MEMTABLE_WEIGHT → IsGood flushed grown × (log_ops flushed grown ≡ log_ops flushed records ++ more) × (log_frozen flushed grown ≡ log_frozen flushed records)
  write_good room =
      let z : ℕ = unwrap_or (log_frozen flushed records) flushed - flushed in
      let frozen_same : log_frozen flushed grown ≡ log_frozen flushed records = ap first_freeze grown_freezes in
      let within : z ≤ length (log_ops flushed records) = cut_within (log_frozen flushed records) refl in
      let frozen_are : frozen_ops flushed grown ≡ frozen_ops flushed records =
      ap (λ (o : Option ℕ). take (unwrap_or o flushed - flushed) (log_ops flushed grown)) frozen_same ∙ ap (take z) grown_ops ∙ take-append-le z (log_ops flushed records) more within in
      let active_are : active_ops flushed grown ≡ active_ops flushed records ++ more =
      ap (λ (o : Option ℕ). drop (unwrap_or o flushed - flushed) (log_ops flushed grown)) frozen_same ∙ ap (drop z) grown_ops ∙ drop-append-le z (log_ops flushed records) more within in
      let weighs : total_weight (active_ops flushed grown) ≡ total_weight (active_ops flushed records) + total_weight more = ap total_weight active_are ∙ sum_by-append weight_of (active_ops flushed records) more in
      let frozen_light = good.frozen_light in
      let frozen_weighs : total_weight (frozen_ops flushed grown) ≡ total_weight (frozen_ops flushed records) = ap total_weight frozen_are in
      let count : length (log_freezes flushed grown) ≡ length (log_freezes flushed records) = ap length grown_freezes in
      let once = good.once in (
        record {
          begun = write_begun records refl;
          linked = write_linked;
          apart = write_apart;
          once = omega (arith, count, once);
          reaches = write_reaches;
          frozen_light = omega (arith, frozen_weighs, frozen_light);
          active_light = omega (arith, weighs, room);
        },
        grown_ops,
        frozen_same,
      )

-- ---- a freeze

module _ (flushed : ℕ) (records : List LogRecord) (good : IsGood flushed records) (sound : AreRecords records) (none : log_freezes flushed records ≡ []) (some : 0 < length (log_ops flushed records)) where
  abbrev here : ℕ
  here = flushed + length (log_ops flushed records)

  abbrev frozen : List LogRecord
  frozen = records ++ Freeze here ∷ []

  ends_here : (end : ℕ) → end_of records ≡ Some end → end ≡ here
  ends_here end is = let c = good_count flushed records good sound end is in let low = c.0 in let count = c.1 in omega (arith, low, count)

  frozen_all : log_ops flushed frozen ≡ log_ops flushed records
  frozen_all = flat_map-append (ops_above flushed) records (Freeze here ∷ []) ∙ append-nil (log_ops flushed records)

  frozen_freezes : log_freezes flushed frozen ≡ here ∷ []
  frozen_freezes =
      flat_map-append (freeze_above flushed) records (Freeze here ∷ [])
      ∙ ap (λ (l : List ℕ). l ++ (cond (ltb flushed here) (here ∷ []) [] ++ [])) none
      ∙ ap (λ b. cond b (here ∷ []) [] ++ []) (lt-ltb flushed here (omega (arith, some)))

  freeze_linked : Linked None frozen
  freeze_linked = linked_more None records (Freeze here) good.linked (by_end (end_of records) refl)
    where
      by_end : (o : Option ℕ) → end_of records ≡ o → Linked (later None records) (Freeze here ∷ [])
      by_end None is = subst (λ (x : Option ℕ). Linked (option_or x None) (Freeze here ∷ [])) (sym is) tt
      by_end (Some end) is = subst (λ (x : Option ℕ). Linked (option_or x None) (Freeze here ∷ [])) (sym is) (sym (ends_here end is), tt)

  freeze_begun : (rs : List LogRecord) → records ≡ rs → BeginsLate flushed (rs ++ Freeze here ∷ []) → ⊥
  freeze_begun [] same h = let count : length (log_ops flushed records) ≡ 0 = ap (λ (l : List LogRecord). length (log_ops flushed l)) same in omega (arith, count, some)
  freeze_begun (Write first ops ∷ rs) same h = (subst (IsGood flushed) same good).begun h
  freeze_begun (Freeze at ∷ rs) same h = (subst (IsGood flushed) same good).begun tt

  freeze_apart : Straddles flushed frozen → ⊥
  freeze_apart s = by_place (IsIn-append_cases (Write s.first s.ops) records (Freeze here ∷ []) s.among)
    where
      by_place : IsIn (Write s.first s.ops) records ⊎ IsIn (Write s.first s.ops) (Freeze here ∷ []) → ⊥
      by_place (inl m) = good.apart (record { first = s.first; ops = s.ops; among = m; low = s.low; high = s.high })
      by_place (inr (inl same)) = cc
      by_place (inr (inr nothing)) = nothing

  -- the log is good, and holds the same operations, all of them frozen
  pub freeze_good : IsGood flushed frozen × (log_ops flushed frozen ≡ log_ops flushed records) × (log_frozen flushed frozen ≡ Some here)
  freeze_good =
      let at : log_frozen flushed frozen ≡ Some here = ap first_freeze frozen_freezes in
      let count : here - flushed ≡ length (log_ops flushed records) = omega arith in
      let were : active_ops flushed records ≡ log_ops flushed records = ap (λ (l : List ℕ). drop (unwrap_or (first_freeze l) flushed - flushed) (log_ops flushed records)) none ∙ ap (λ (n : ℕ). drop n (log_ops flushed records)) (zero_is flushed) in
      let frozen_are : frozen_ops flushed frozen ≡ log_ops flushed records =
      ap (λ (o : Option ℕ). take (unwrap_or o flushed - flushed) (log_ops flushed frozen)) at ∙ ap (take (here - flushed)) frozen_all ∙ ap (λ (n : ℕ). take n (log_ops flushed records)) count ∙ take-length (log_ops flushed records) in
      let active_are : active_ops flushed frozen ≡ [] =
      ap (λ (o : Option ℕ). drop (unwrap_or o flushed - flushed) (log_ops flushed frozen)) at ∙ ap (drop (here - flushed)) frozen_all ∙ ap (λ (n : ℕ). drop n (log_ops flushed records)) count ∙ drop-length (log_ops flushed records) in
      let light = good.active_light in
      let weighs : total_weight (frozen_ops flushed frozen) ≡ total_weight (active_ops flushed records) = ap total_weight (frozen_are ∙ sym were) in
      let weighs_none : total_weight (active_ops flushed frozen) ≡ 0 = ap total_weight active_are in
      let one : length (log_freezes flushed frozen) ≡ 1 = ap length frozen_freezes in (
        record {
          begun = freeze_begun records refl;
          linked = freeze_linked;
          apart = freeze_apart;
          once = omega (arith, one);
          reaches = λ h. good.reaches (h.0, sym (end_freeze records here) ∙ h.1, h.2);
          frozen_light = omega (arith, weighs, light);
          active_light = omega (arith, weighs_none);
        },
        frozen_all,
        at,
      )
    where
      zero_is : (n : ℕ) → n - n ≡ 0
      zero_is n = omega arith
