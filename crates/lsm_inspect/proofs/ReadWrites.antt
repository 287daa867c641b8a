-- What the records of a log have been, with one write more.
use Rattle.std.proofs.Common.{◌≡◌, ℕ, ◌+◌, ◌-◌, ◌<◌, ◌≤◌, Bool, true, false, cond, List, [], ◌∷◌, ◌++◌, ◌⊎◌, Option, None, Some, length, take, drop, refl, sym, ap, subst, ◌∙◌, arith, inl, inr}
use Rattle.std.specs.Prelude.{nat_lt}
use Rattle.std.specs.Option.{option_or, unwrap_or}
use Rattle.std.proofs.lemmas.Bool.{eqb-true, leb-true, ltb-false, ltb-true, true≢false}
use Rattle.std.proofs.lemmas.List.{append-nil, drop_all, drop-append-le, length-append, take-append-le}
use Rattle.std.proofs.lemmas.List.Concat.{flat_map-append}
use Rattle.std.proofs.lemmas.List.Sums.{sum_by-append}
use Rattle.lsm_key.specs.declared.op.Op.{Op}
use Rattle.lsm_key.specs.declared.limits.TheConstants.{MAX_MEMTABLE_WEIGHT}
use Rattle.lsm_key.specs.Limits.{total_weight, weight_of}
use Rattle.lsm_edit.specs.declared.log_record.LogRecord.{LogRecord}
use Rattle.lsm_edit.specs.declared.log_record.LogRecord.TheVariants.{Write}
use Rattle.lsm_edit.specs.LogRecord.{IsRecord}
use Rattle.lsm_edit.specs.Log.{IsHeavy, Linked, active_ops, end_of, first_freeze, freeze_above, frozen_ops, log_freezes, log_frozen, log_ops, ops_above}
use Rattle.lsm_edit.proofs.GrownLogs.{linked_more}
use Rattle.lsm_edit.proofs.LogLaws.{end_write, later}
use Rattle.lsm_inspect.specs.declared.reading.LogReading.{LogReading}
use Rattle.lsm_inspect.specs.LogReading.{IsReading, may_begin, with_weight}
use Rattle.lsm_inspect.proofs.RecordsMore.{apart_write, begun_write, heavy_on}

-- ---- weight

-- what more operations make of what was weighed
pub record Weighs (more : ℕ) (old new : LogReading) : Type 0 where
  pub last : new.last ≡ old.last
  pub is_frozen : new.is_frozen ≡ old.is_frozen
  pub light : new.is_heavy ≡ false → (old.is_heavy ≡ false) × (new.weight ≡ old.weight + more) × (old.weight ≤ MAX_MEMTABLE_WEIGHT → new.weight ≤ MAX_MEMTABLE_WEIGHT)
  pub heavy : new.is_heavy ≡ true → (old.is_heavy ≡ true) ⊎ ((old.is_heavy ≡ false) × (MAX_MEMTABLE_WEIGHT < old.weight + more))

pub weighs : (more : ℕ) (r : LogReading) → Weighs more r (with_weight more r)
weighs more r = by_tests r.is_heavy (nat_lt (MAX_MEMTABLE_WEIGHT - r.weight) more) refl refl
  where
    by_tests : (b c : Bool) → r.is_heavy ≡ b → nat_lt (MAX_MEMTABLE_WEIGHT - r.weight) more ≡ c → Weighs more r (cond b r (cond c (record r { is_heavy = true }) (record r { weight = r.weight + more })))
    by_tests true c was over = record {
      last = refl;
      is_frozen = refl;
      light = λ light. absurd (true≢false (sym was ∙ light));
      heavy = λ heavy. inl was;
    }
    by_tests false true was over = record {
      last = refl;
      is_frozen = refl;
      light = λ light. absurd (true≢false light);
      heavy = λ heavy. inr (was, (let lt = ltb-true (MAX_MEMTABLE_WEIGHT - r.weight) more over in omega (arith, lt)));
    }
    by_tests false false was over = record {
      last = refl;
      is_frozen = refl;
      light = λ light. (was, refl, λ low. (let le = ltb-false (MAX_MEMTABLE_WEIGHT - r.weight) more over in omega (arith, le, low)));
      heavy = λ heavy. absurd (true≢false (sym heavy ∙ was));
    }

module _ (flushed : ℕ) (records : List LogRecord) (r : LogReading) (h : IsReading flushed records r) (first : ℕ) (ops : List Op) (own : IsRecord (Write first ops)) (next : may_begin flushed r.last first ≡ true) where
  abbrev with_write : List LogRecord
  with_write = records ++ Write first ops ∷ []

  -- the last sequence of the write
  abbrev last : ℕ
  last = first + length ops - 1

  follows : may_begin flushed (end_of records) first ≡ true
  follows = subst (λ (o : Option ℕ). may_begin flushed o first ≡ true) h.last_is next

  -- if it is the first write, it begins in time
  early : end_of records ≡ None → first ≤ flushed + 1
  early none = leb-true first (flushed + 1) (subst (λ (o : Option ℕ). may_begin flushed o first ≡ true) none follows)

  linked_write : Linked None with_write
  linked_write = linked_more None records (Write first ops) h.linked (by_end (end_of records) refl follows)
    where
      by_end : (o : Option ℕ) → end_of records ≡ o → may_begin flushed o first ≡ true → Linked (later None records) (Write first ops ∷ [])
      by_end None is may = subst (λ (x : Option ℕ). Linked (option_or x None) (Write first ops ∷ [])) (sym is) tt
      by_end (Some end) is may = subst (λ (x : Option ℕ). Linked (option_or x None) (Write first ops ∷ [])) (sym is) (eqb-true first (end + 1) may, tt)

  freezes_same : log_freezes flushed with_write ≡ log_freezes flushed records
  freezes_same = flat_map-append (freeze_above flushed) records (Write first ops ∷ []) ∙ append-nil (log_freezes flushed records)

  frozen_same : log_frozen flushed with_write ≡ log_frozen flushed records
  frozen_same = ap first_freeze freezes_same

  freezes_long : length (log_freezes flushed with_write) ≡ length (log_freezes flushed records)
  freezes_long = ap length freezes_same

  once_more : length (log_freezes flushed with_write) ≤ 1
  once_more = (let once = h.once in omega (arith, once, freezes_long))

  -- how many operations are up to the frozen end
  abbrev cut : ℕ
  cut = unwrap_or (log_frozen flushed records) flushed - flushed

  cut_same : unwrap_or (log_frozen flushed with_write) flushed - flushed ≡ cut
  cut_same = ap (λ (o : Option ℕ). unwrap_or o flushed - flushed) frozen_same

  ends_last : (end : ℕ) → end_of with_write ≡ Some end → last ≡ end
  ends_last end is = ap (λ (o : Option ℕ). unwrap_or o 0) (sym (end_write records first ops) ∙ is)

  not_none : end_of with_write ≡ None → with_write ≡ []
  not_none is = (let both : Some last ≡ None = sym (end_write records first ops) ∙ is in absurd cc)

  -- how many operations there were before the write
  held_before : length (log_ops flushed records) ≡ first - 1 - flushed
  held_before = by_end (end_of records) refl follows
    where
      by_end : (o : Option ℕ) → end_of records ≡ o → may_begin flushed o first ≡ true → length (log_ops flushed records) ≡ first - 1 - flushed
      by_end None is may =
          let none : length (log_ops flushed records) ≡ 0 = ap (λ (l : List LogRecord). length (log_ops flushed l)) (h.none is) in
          let low = leb-true first (flushed + 1) may in
          omega (arith, none, low)
      by_end (Some end) is may =
          let count = h.count end is in
          let same = eqb-true first (end + 1) may in
          omega (arith, count, same)

  -- ---- a write up to the flushed sequence: nothing is held that was not

  module _ (low : last ≤ flushed) where
    held_same : log_ops flushed with_write ≡ log_ops flushed records
    held_same =
        flat_map-append (ops_above flushed) records (Write first ops ∷ [])
        ∙ ap (λ (l : List Op). log_ops flushed records ++ l) (append-nil (drop (flushed + 1 - first) ops) ∙ drop_all (flushed + 1 - first) ops (omega (arith, low)))
        ∙ append-nil (log_ops flushed records)

    held_long : length (log_ops flushed with_write) ≡ length (log_ops flushed records)
    held_long = ap length held_same

    frozen_still : frozen_ops flushed with_write ≡ frozen_ops flushed records
    frozen_still = ap (λ (o : Option ℕ). take (unwrap_or o flushed - flushed) (log_ops flushed with_write)) frozen_same ∙ ap (take cut) held_same

    active_still : active_ops flushed with_write ≡ active_ops flushed records
    active_still = ap (λ (o : Option ℕ). drop (unwrap_or o flushed - flushed) (log_ops flushed with_write)) frozen_same ∙ ap (drop cut) held_same

    frozen_weighs : total_weight (frozen_ops flushed with_write) ≡ total_weight (frozen_ops flushed records)
    frozen_weighs = ap total_weight frozen_still

    active_weighs : total_weight (active_ops flushed with_write) ≡ total_weight (active_ops flushed records)
    active_weighs = ap total_weight active_still

    pub write_passed : IsReading flushed with_write (record r { last = Some last })
    write_passed = record {
      begun = begun_write flushed records first ops h.begun early;
      none = not_none;
      linked = linked_write;
      apart = apart_write flushed records first ops h.apart (λ under over. omega (arith, low, over));
      once = once_more;
      last_is = sym (end_write records first ops);
      free = λ none. freezes_same ∙ h.free none;
      frozen = λ some. (let one = h.frozen some in omega (arith, one, freezes_long));
      count = λ end is. (let ends = ends_last end is in let some = own.1 in omega (arith, held_long, held_before, ends, some, low));
      within = (let within = h.within in omega (arith, within, cut_same, held_long));
      light = λ light. (let l = h.light light in (subst (λ (os : List Op). total_weight os ≤ MAX_MEMTABLE_WEIGHT) (sym frozen_still) l.0, l.1 ∙ ap total_weight (sym active_still), l.2));
      heavy = λ heavy. heavy_on flushed records with_write (omega (arith, frozen_weighs)) (omega (arith, active_weighs)) (h.heavy heavy);
    }

  -- ---- a write above it: its operations join those behind the frozen end

  module _ (above : flushed < first) where
    none_below : flushed + 1 - first ≡ 0
    none_below = omega (arith, above)

    held_more : log_ops flushed with_write ≡ log_ops flushed records ++ ops
    held_more =
        flat_map-append (ops_above flushed) records (Write first ops ∷ [])
        ∙ ap (λ (l : List Op). log_ops flushed records ++ l) (append-nil (drop (flushed + 1 - first) ops) ∙ ap (λ (n : ℕ). drop n ops) none_below)

    grown_long : length (log_ops flushed with_write) ≡ length (log_ops flushed records) + length ops
    grown_long = ap length held_more ∙ length-append (log_ops flushed records) ops

    frozen_kept : frozen_ops flushed with_write ≡ frozen_ops flushed records
    frozen_kept =
        ap (λ (o : Option ℕ). take (unwrap_or o flushed - flushed) (log_ops flushed with_write)) frozen_same
        ∙ ap (take cut) held_more
        ∙ take-append-le cut (log_ops flushed records) ops h.within

    active_grown : active_ops flushed with_write ≡ active_ops flushed records ++ ops
    active_grown =
        ap (λ (o : Option ℕ). drop (unwrap_or o flushed - flushed) (log_ops flushed with_write)) frozen_same
        ∙ ap (drop cut) held_more
        ∙ drop-append-le cut (log_ops flushed records) ops h.within

    frozen_weighed : total_weight (frozen_ops flushed with_write) ≡ total_weight (frozen_ops flushed records)
    frozen_weighed = ap total_weight frozen_kept

    weighs_more : total_weight (active_ops flushed with_write) ≡ total_weight (active_ops flushed records) + total_weight ops
    weighs_more = ap total_weight active_grown ∙ sum_by-append weight_of (active_ops flushed records) ops

    module _ (new : LogReading) (w : Weighs (total_weight ops) (record r { last = Some last }) new) where
      now_light : new.is_heavy ≡ false → (total_weight (frozen_ops flushed with_write) ≤ MAX_MEMTABLE_WEIGHT) × (new.weight ≡ total_weight (active_ops flushed with_write)) × (new.weight ≤ MAX_MEMTABLE_WEIGHT)
      now_light light =
          let n = w.light light in
          let l = h.light n.0 in
          let were = l.1 in
          let are = n.1 in (
            subst (λ (os : List Op). total_weight os ≤ MAX_MEMTABLE_WEIGHT) (sym frozen_kept) l.0,
            omega (arith, were, are, weighs_more),
            n.2 l.2,
          )

      now_heavy : (r.is_heavy ≡ true) ⊎ ((r.is_heavy ≡ false) × (MAX_MEMTABLE_WEIGHT < r.weight + total_weight ops)) → IsHeavy flushed with_write
      now_heavy (inl heavy) = heavy_on flushed records with_write (omega (arith, frozen_weighed)) (omega (arith, weighs_more)) (h.heavy heavy)
      now_heavy (inr over) = (let l = h.light over.0 in let were = l.1 in let more = over.1 in inr (omega (arith, were, more, weighs_more)))

      pub write_taken : IsReading flushed with_write new
      write_taken = record {
        begun = begun_write flushed records first ops h.begun early;
        none = not_none;
        linked = linked_write;
        apart = apart_write flushed records first ops h.apart (λ under over. omega (arith, above, under));
        once = once_more;
        last_is = w.last ∙ sym (end_write records first ops);
        free = λ none. freezes_same ∙ h.free (sym w.is_frozen ∙ none);
        frozen = λ some. (let one = h.frozen (sym w.is_frozen ∙ some) in omega (arith, one, freezes_long));
        count = λ end is. (let ends = ends_last end is in let some = own.1 in omega (arith, grown_long, held_before, ends, some, above));
        within = (let within = h.within in omega (arith, within, cut_same, grown_long));
        light = now_light;
        heavy = λ heavy. now_heavy (w.heavy heavy);
      }
