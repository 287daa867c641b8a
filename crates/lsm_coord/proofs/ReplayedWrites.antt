-- What a replay has made of records, with one write more.
use Rattle.std.proofs.Common.{◌≡◌, ℕ, ◌+◌, ◌-◌, ◌<◌, ◌≤◌, true, List, [], ◌∷◌, ◌++◌, ◌⊎◌, Option, None, Some, length, take, drop, refl, sym, ap, subst, ◌∙◌, arith, inl, inr}
use Rattle.std.specs.Prelude.{sum_by}
use Rattle.std.specs.Option.{option_or, unwrap_or}
use Rattle.std.specs.List.Sorted.{IsPermutation}
use Rattle.std.proofs.lemmas.Bool.{eqb-true, leb-true}
use Rattle.std.proofs.lemmas.List.{append-nil, drop_all, drop-append-le, length-append, take-append-le}
use Rattle.std.proofs.lemmas.List.Concat.{flat_map-append}
use Rattle.std.proofs.lemmas.List.Sorted.{IsPermutation-append, IsPermutation-refl, IsPermutation-sym, IsPermutation-trans, sum_by-IsPermutation}
use Rattle.std.proofs.lemmas.List.Sums.{sum_by-append}
use Rattle.lsm_key.specs.declared.entry.Entry.{Entry}
use Rattle.lsm_key.specs.declared.op.Op.{Op}
use Rattle.lsm_key.specs.declared.limits.TheConstants.{MAX_MEMTABLE_WEIGHT}
use Rattle.lsm_key.specs.Limits.{entry_weight, total_weight, weight_of}
use Rattle.lsm_key.specs.Places.{entries_after}
use Rattle.lsm_key.specs.Sets.{IsIn}
use Rattle.lsm_key.proofs.Membership.{IsIn-append_cases}
use Rattle.lsm_key.proofs.WritesOverStored.{entries_after-append, weight-entries_after}
use Rattle.lsm_edit.specs.declared.log_record.LogRecord.{LogRecord}
use Rattle.lsm_edit.specs.declared.log_record.LogRecord.TheVariants.{Write, Freeze}
use Rattle.lsm_edit.specs.LogRecord.{IsRecord}
use Rattle.lsm_edit.specs.Log.{BeginsLate, Linked, Straddles, active_ops, end_of, first_freeze, freeze_above, frozen_ops, log_freezes, log_frozen, log_ops, ops_above}
use Rattle.lsm_edit.specs.LogLaws.{AreRecords}
use Rattle.lsm_edit.proofs.GrownLogs.{linked_more}
use Rattle.lsm_edit.proofs.LogLaws.{end_write, later, record_end}
use Rattle.lsm_edit.proofs.LogRecordLaws.{seq_of}
use Rattle.lsm_coord.specs.declared.frozen.Frozen.{Frozen}
use Rattle.lsm_coord.specs.declared.replay.Replayed.{Replayed}
use Rattle.lsm_coord.specs.Contract.Logs.{records_upto}
use Rattle.lsm_coord.specs.Contract.Value.{frozen_entries, start_of}
use Rattle.lsm_coord.specs.Inner.Replaying.{HasReplayed, write_is_next}
use Rattle.lsm_coord.proofs.LogCuts.{upto_more}
use Rattle.lsm_coord.proofs.ReplayedRecords.{after_last, cut_within, seam, upto_all}

-- the active memtable weighs what the operations weigh that it has
pub active_weighs : (flushed : ℕ) (records : List LogRecord) (r : Replayed) → HasReplayed flushed records r → sum_by entry_weight r.active ≡ total_weight (active_ops flushed records)
active_weighs flushed records r h =
    sym (sum_by-IsPermutation entry_weight r.active (entries_after (start_of r.frozen flushed) (active_ops flushed records)) h.active_is)
    ∙ weight-entries_after (start_of r.frozen flushed) (active_ops flushed records)

module _ (flushed : ℕ) (records : List LogRecord) (r : Replayed) (h : HasReplayed flushed records r) (first : ℕ) (ops : List Op) (own : IsRecord (Write first ops)) (next : write_is_next flushed r.last first ≡ true) where
  abbrev with_write : List LogRecord
  with_write = records ++ Write first ops ∷ []

  -- the last sequence of the write
  abbrev last : ℕ
  last = first + length ops - 1

  sound_more : AreRecords with_write
  sound_more q m = by_place (IsIn-append_cases q records (Write first ops ∷ []) m)
    where
      by_place : IsIn q records ⊎ IsIn q (Write first ops ∷ []) → IsRecord q
      by_place (inl before) = h.sound q before
      by_place (inr (inl same)) = subst IsRecord (sym same) own
      by_place (inr (inr none)) = absurd none

  begun_more : (rs : List LogRecord) → records ≡ rs → BeginsLate flushed (rs ++ Write first ops ∷ []) → ⊥
  begun_more [] is late =
      let first_of_all : write_is_next flushed None first ≡ true = subst (λ (o : Option ℕ). write_is_next flushed o first ≡ true) (h.last_is ∙ ap end_of is) next in
      let low = leb-true first (flushed + 1) first_of_all in
      omega (arith, late, low)
  begun_more (Write f os ∷ rs) is late = subst (λ (l : List LogRecord). BeginsLate flushed l → ⊥) is h.begun late
  begun_more (Freeze at ∷ rs) is late = subst (λ (l : List LogRecord). BeginsLate flushed l → ⊥) is h.begun tt

  linked_write : Linked None with_write
  linked_write = linked_more None records (Write first ops) h.linked (by_end (end_of records) refl (subst (λ (o : Option ℕ). write_is_next flushed o first ≡ true) h.last_is next))
    where
      by_end : (o : Option ℕ) → end_of records ≡ o → write_is_next flushed o first ≡ true → Linked (later None records) (Write first ops ∷ [])
      by_end None is follows = subst (λ (x : Option ℕ). Linked (option_or x None) (Write first ops ∷ [])) (sym is) tt
      by_end (Some end) is follows = subst (λ (x : Option ℕ). Linked (option_or x None) (Write first ops ∷ [])) (sym is) (eqb-true first (end + 1) follows, tt)

  apart_more : (first ≤ flushed → flushed + 1 < first + length ops → ⊥) → Straddles flushed with_write → ⊥
  apart_more whole s = by_place (IsIn-append_cases (Write s.first s.ops) records (Write first ops ∷ []) s.among)
    where
      by_place : IsIn (Write s.first s.ops) records ⊎ IsIn (Write s.first s.ops) (Write first ops ∷ []) → ⊥
      by_place (inl before) = h.apart (record { first = s.first; ops = s.ops; among = before; low = s.low; high = s.high })
      by_place (inr (inl same)) =
          let begins : s.first ≡ first = ap seq_of same in
          let ends : s.first + length s.ops ≡ first + length ops = ap record_end same in
          let low = s.low in
          let high = s.high in
          whole (omega (arith, begins, low)) (omega (arith, ends, high))
      by_place (inr (inr none)) = none

  reached_more : unwrap_or (end_of with_write) 0 ≡ last
  reached_more = ap (λ (o : Option ℕ). unwrap_or o 0) (end_write records first ops)

  freezes_same : log_freezes flushed with_write ≡ log_freezes flushed records
  freezes_same = flat_map-append (freeze_above flushed) records (Write first ops ∷ []) ∙ append-nil (log_freezes flushed records)

  frozen_same : log_frozen flushed with_write ≡ log_frozen flushed records
  frozen_same = ap first_freeze freezes_same

  begins_after : unwrap_or (end_of records) 0 < first
  begins_after = after_last flushed records r h first own.0 next

  ends_after : first ≤ last
  ends_after = let some = own.1 in omega (arith, some)

  all_more : (n : ℕ) → unwrap_or (end_of with_write) 0 ≤ n → records_upto n with_write ≡ length with_write
  all_more n le =
      let low : first ≤ n = omega (arith, le, reached_more, ends_after) in
      upto_all n records (Write first ops) (h.all_upto n (omega (arith, low, begins_after))) low

  between_more : (f : Frozen) → r.frozen ≡ Some f → (flushed < f.end) × (f.end ≤ unwrap_or (end_of with_write) 0)
  between_more f is =
      let b = h.between f is in
      let end = b.1 in
      (b.0, omega (arith, end, begins_after, ends_after, reached_more))

  frozen_upto_more : (f : Frozen) → r.frozen ≡ Some f → r.frozen_upto ≡ records_upto f.end with_write
  frozen_upto_more f is =
      let b = h.between f is in
      let end = b.1 in
      h.frozen_upto f is ∙ sym (upto_more f.end records (Write first ops) (omega (arith, end, begins_after)))

  read_more : r.read + 1 ≡ length with_write
  read_more = let count = h.read_is in omega (arith, count, length-append records (Write first ops ∷ []))

  once_more : length (log_freezes flushed with_write) ≤ 1
  once_more = let once = h.once in let same = ap length freezes_same in omega (arith, once, same)

  -- how many operations are up to the frozen end
  abbrev cut : ℕ
  cut = unwrap_or (log_frozen flushed records) flushed - flushed

  -- ---- a write up to the flushed sequence: nothing is held that was not

  module _ (low : last ≤ flushed) where
    held_same : log_ops flushed with_write ≡ log_ops flushed records
    held_same =
        flat_map-append (ops_above flushed) records (Write first ops ∷ [])
        ∙ ap (λ (l : List Op). log_ops flushed records ++ l) (append-nil (drop (flushed + 1 - first) ops) ∙ drop_all (flushed + 1 - first) ops (omega (arith, low)))
        ∙ append-nil (log_ops flushed records)

    frozen_still : frozen_ops flushed with_write ≡ frozen_ops flushed records
    frozen_still = ap (λ (o : Option ℕ). take (unwrap_or o flushed - flushed) (log_ops flushed with_write)) frozen_same ∙ ap (take cut) held_same

    active_still : active_ops flushed with_write ≡ active_ops flushed records
    active_still = ap (λ (o : Option ℕ). drop (unwrap_or o flushed - flushed) (log_ops flushed with_write)) frozen_same ∙ ap (drop cut) held_same

    pub passed_over : HasReplayed flushed with_write (record r { last = Some last; read = r.read + 1; flushed_upto = r.read + 1 })
    passed_over = record {
      sound = sound_more;
      begun = begun_more records refl;
      linked = linked_write;
      apart = apart_more (λ under over. omega (arith, low, over));
      once = once_more;
      frozen_light = subst (λ (os : List Op). total_weight os ≤ MAX_MEMTABLE_WEIGHT) (sym frozen_still) h.frozen_light;
      active_light = subst (λ (os : List Op). total_weight os ≤ MAX_MEMTABLE_WEIGHT) (sym active_still) h.active_light;
      last_is = sym (end_write records first ops);
      frozen_end = h.frozen_end ∙ sym frozen_same;
      active_is = subst (λ (os : List Op). IsPermutation r.active (entries_after (start_of r.frozen flushed) os)) (sym active_still) h.active_is;
      frozen_is = subst (λ (os : List Op). IsPermutation (frozen_entries r.frozen) (entries_after flushed os)) (sym frozen_still) h.frozen_is;
      between = between_more;
      read_is = read_more;
      all_upto = all_more;
      flushed_upto = read_more ∙ sym (all_more flushed (omega (arith, low, reached_more)));
      frozen_upto = frozen_upto_more;
    }

  -- ---- a write above it: its entries join the active memtable

  module _ (above : flushed < first) where
    none_below : flushed + 1 - first ≡ 0
    none_below = omega (arith, above)

    held_more : log_ops flushed with_write ≡ log_ops flushed records ++ ops
    held_more =
        flat_map-append (ops_above flushed) records (Write first ops ∷ [])
        ∙ ap (λ (l : List Op). log_ops flushed records ++ l) (append-nil (drop (flushed + 1 - first) ops) ∙ ap (λ (n : ℕ). drop n ops) none_below)

    frozen_kept : frozen_ops flushed with_write ≡ frozen_ops flushed records
    frozen_kept =
        ap (λ (o : Option ℕ). take (unwrap_or o flushed - flushed) (log_ops flushed with_write)) frozen_same
        ∙ ap (take cut) held_more
        ∙ take-append-le cut (log_ops flushed records) ops (cut_within flushed records r h)

    active_grown : active_ops flushed with_write ≡ active_ops flushed records ++ ops
    active_grown =
        ap (λ (o : Option ℕ). drop (unwrap_or o flushed - flushed) (log_ops flushed with_write)) frozen_same
        ∙ ap (drop cut) held_more
        ∙ drop-append-le cut (log_ops flushed records) ops (cut_within flushed records r h)

    weighs_more : total_weight (active_ops flushed with_write) ≡ total_weight (active_ops flushed records) + total_weight ops
    weighs_more = ap total_weight active_grown ∙ sum_by-append weight_of (active_ops flushed records) ops

    abbrev start : ℕ
    start = start_of r.frozen flushed

    abbrev fresh : List Entry
    fresh = entries_after (first - 1) ops

    entries_are : entries_after start (active_ops flushed with_write) ≡ entries_after start (active_ops flushed records) ++ fresh
    entries_are =
        ap (entries_after start) active_grown
        ∙ entries_after-append start (active_ops flushed records) ops
        ∙ ap (λ (n : ℕ). entries_after start (active_ops flushed records) ++ entries_after n ops) (seam flushed records r h first next above)

    pub taken_up : (active : List Entry) → IsPermutation (r.active ++ fresh) active → sum_by entry_weight r.active + total_weight ops ≤ MAX_MEMTABLE_WEIGHT
        → HasReplayed flushed with_write (record r { active = active; last = Some last; read = r.read + 1 })
    taken_up active joined room = record {
      sound = sound_more;
      begun = begun_more records refl;
      linked = linked_write;
      apart = apart_more (λ under over. omega (arith, above, under));
      once = once_more;
      frozen_light = subst (λ (os : List Op). total_weight os ≤ MAX_MEMTABLE_WEIGHT) (sym frozen_kept) h.frozen_light;
      active_light = let weighs = active_weighs flushed records r h in omega (arith, room, weighs, weighs_more);
      last_is = sym (end_write records first ops);
      frozen_end = h.frozen_end ∙ sym frozen_same;
      active_is = rw entries_are (IsPermutation-trans active (r.active ++ fresh) (entries_after start (active_ops flushed records) ++ fresh) (IsPermutation-sym (r.active ++ fresh) active joined)
          (IsPermutation-append r.active (entries_after start (active_ops flushed records)) fresh fresh h.active_is (IsPermutation-refl fresh)));
      frozen_is = subst (λ (os : List Op). IsPermutation (frozen_entries r.frozen) (entries_after flushed os)) (sym frozen_kept) h.frozen_is;
      between = between_more;
      read_is = read_more;
      all_upto = all_more;
      flushed_upto = h.flushed_upto ∙ sym (upto_more flushed records (Write first ops) above);
      frozen_upto = frozen_upto_more;
    }
