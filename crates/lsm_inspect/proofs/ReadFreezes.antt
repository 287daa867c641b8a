-- What the records of a log have been, with one freeze more.
use Rattle.std.proofs.Common.{◌≡◌, ℕ, ◌-◌, ◌<◌, ◌≤◌, Bool, true, false, cond, List, [], ◌∷◌, ◌++◌, Option, None, Some, length, take, drop, refl, sym, ap, subst, ◌∙◌, arith, inl, inr}
use Rattle.std.specs.Option.{option_or, unwrap_or}
use Rattle.std.proofs.Math.Seq.{drop-length, take-length}
use Rattle.std.proofs.lemmas.Bool.{eqb-true, le-ltb, lt-ltb, true≢false}
use Rattle.std.proofs.lemmas.List.{append-nil}
use Rattle.std.proofs.lemmas.List.Concat.{flat_map-append}
use Rattle.lsm_key.specs.declared.op.Op.{Op}
use Rattle.lsm_key.specs.declared.limits.TheConstants.{MAX_MEMTABLE_WEIGHT}
use Rattle.lsm_key.specs.Limits.{total_weight}
use Rattle.lsm_edit.specs.declared.log_record.LogRecord.{LogRecord}
use Rattle.lsm_edit.specs.declared.log_record.LogRecord.TheVariants.{Freeze}
use Rattle.lsm_edit.specs.Log.{IsHeavy, Linked, active_ops, end_of, first_freeze, freeze_above, frozen_ops, log_freezes, log_frozen, log_ops, ops_above}
use Rattle.lsm_edit.proofs.GrownLogs.{linked_more}
use Rattle.lsm_edit.proofs.LogLaws.{end_freeze}
use Rattle.lsm_inspect.specs.declared.reading.LogReading.{LogReading}
use Rattle.lsm_inspect.specs.LogReading.{IsReading, may_freeze}
use Rattle.lsm_inspect.proofs.RecordsMore.{apart_freeze, begun_freeze, heavy_on}

-- a freeze at the last sequence of the last write
place_is : (o : Option ℕ) (at : ℕ) → may_freeze o at ≡ true → o ≡ Some at
place_is None at may = absurd cc
place_is (Some last) at may = ap Some (sym (eqb-true at last may))

module _ (flushed : ℕ) (records : List LogRecord) (r : LogReading) (h : IsReading flushed records r) (at : ℕ) (there : may_freeze r.last at ≡ true) where
  abbrev with_freeze : List LogRecord
  with_freeze = records ++ Freeze at ∷ []

  ends_at : end_of records ≡ Some at
  ends_at = sym h.last_is ∙ place_is r.last at there

  some_end : end_of records ≡ None → ⊥
  some_end none = (let both : None ≡ Some at = sym none ∙ ends_at in cc)

  not_none : end_of with_freeze ≡ None → with_freeze ≡ []
  not_none none = absurd (some_end (sym (end_freeze records at) ∙ none))

  linked_freeze : Linked None with_freeze
  linked_freeze = linked_more None records (Freeze at) h.linked (subst (λ (x : Option ℕ). Linked (option_or x None) (Freeze at ∷ [])) (sym ends_at) (refl, tt))

  held_same : log_ops flushed with_freeze ≡ log_ops flushed records
  held_same = flat_map-append (ops_above flushed) records (Freeze at ∷ []) ∙ append-nil (log_ops flushed records)

  held_long : length (log_ops flushed with_freeze) ≡ length (log_ops flushed records)
  held_long = ap length held_same

  count_more : (end : ℕ) → end_of with_freeze ≡ Some end → length (log_ops flushed with_freeze) ≡ end - flushed
  count_more end is = held_long ∙ h.count end (sym (end_freeze records at) ∙ is)

  -- ---- a freeze up to the flushed sequence: nothing is frozen that was not

  module _ (low : at ≤ flushed) where
    freezes_same : log_freezes flushed with_freeze ≡ log_freezes flushed records
    freezes_same =
        flat_map-append (freeze_above flushed) records (Freeze at ∷ [])
        ∙ ap (λ (b : Bool). log_freezes flushed records ++ (cond b (at ∷ []) [] ++ [])) (le-ltb flushed at low)
        ∙ append-nil (log_freezes flushed records)

    freezes_long : length (log_freezes flushed with_freeze) ≡ length (log_freezes flushed records)
    freezes_long = ap length freezes_same

    frozen_same : log_frozen flushed with_freeze ≡ log_frozen flushed records
    frozen_same = ap first_freeze freezes_same

    -- how many operations are up to the frozen end
    abbrev cut : ℕ
    cut = unwrap_or (log_frozen flushed records) flushed - flushed

    cut_same : unwrap_or (log_frozen flushed with_freeze) flushed - flushed ≡ cut
    cut_same = ap (λ (o : Option ℕ). unwrap_or o flushed - flushed) frozen_same

    frozen_still : frozen_ops flushed with_freeze ≡ frozen_ops flushed records
    frozen_still = ap (λ (o : Option ℕ). take (unwrap_or o flushed - flushed) (log_ops flushed with_freeze)) frozen_same ∙ ap (take cut) held_same

    active_still : active_ops flushed with_freeze ≡ active_ops flushed records
    active_still = ap (λ (o : Option ℕ). drop (unwrap_or o flushed - flushed) (log_ops flushed with_freeze)) frozen_same ∙ ap (drop cut) held_same

    frozen_weighs : total_weight (frozen_ops flushed with_freeze) ≡ total_weight (frozen_ops flushed records)
    frozen_weighs = ap total_weight frozen_still

    active_weighs : total_weight (active_ops flushed with_freeze) ≡ total_weight (active_ops flushed records)
    active_weighs = ap total_weight active_still

    pub freeze_passed : IsReading flushed with_freeze r
    freeze_passed = record {
      begun = begun_freeze flushed records at h.begun some_end;
      none = not_none;
      linked = linked_freeze;
      apart = apart_freeze flushed records at h.apart;
      once = (let once = h.once in omega (arith, once, freezes_long));
      last_is = h.last_is ∙ sym (end_freeze records at);
      free = λ none. freezes_same ∙ h.free none;
      frozen = λ some. (let one = h.frozen some in omega (arith, one, freezes_long));
      count = count_more;
      within = (let within = h.within in omega (arith, within, cut_same, held_long));
      light = λ light. (let l = h.light light in (subst (λ (os : List Op). total_weight os ≤ MAX_MEMTABLE_WEIGHT) (sym frozen_still) l.0, l.1 ∙ ap total_weight (sym active_still), l.2));
      heavy = λ heavy. heavy_on flushed records with_freeze (omega (arith, frozen_weighs)) (omega (arith, active_weighs)) (h.heavy heavy);
    }

  -- ---- a freeze above it, where nothing is frozen: all that is held is then

  module _ (above : flushed < at) (free : r.is_frozen ≡ false) where
    none_frozen : log_freezes flushed records ≡ []
    none_frozen = h.free free

    freezes_are : log_freezes flushed with_freeze ≡ at ∷ []
    freezes_are =
        flat_map-append (freeze_above flushed) records (Freeze at ∷ [])
        ∙ ap (λ (l : List ℕ). l ++ (freeze_above flushed (Freeze at) ++ [])) none_frozen
        ∙ ap (λ (b : Bool). cond b (at ∷ []) [] ++ []) (lt-ltb flushed at above)

    one_freeze_now : length (log_freezes flushed with_freeze) ≡ 1
    one_freeze_now = ap length freezes_are

    frozen_at : log_frozen flushed with_freeze ≡ Some at
    frozen_at = ap first_freeze freezes_are

    cut_at : unwrap_or (log_frozen flushed with_freeze) flushed - flushed ≡ at - flushed
    cut_at = ap (λ (o : Option ℕ). unwrap_or o flushed - flushed) frozen_at

    all_held : at - flushed ≡ length (log_ops flushed records)
    all_held = sym (h.count at ends_at)

    zero_is : (n : ℕ) → n - n ≡ 0
    zero_is n = omega arith

    cut_none : unwrap_or (log_frozen flushed records) flushed - flushed ≡ 0
    cut_none = ap (λ (l : List ℕ). unwrap_or (first_freeze l) flushed - flushed) none_frozen ∙ zero_is flushed

    -- before it nothing was frozen
    active_all : active_ops flushed records ≡ log_ops flushed records
    active_all = ap (λ (n : ℕ). drop n (log_ops flushed records)) cut_none

    frozen_weighed : total_weight (frozen_ops flushed records) ≡ 0
    frozen_weighed = ap (λ (n : ℕ). total_weight (take n (log_ops flushed records))) cut_none

    frozen_all : frozen_ops flushed with_freeze ≡ log_ops flushed records
    frozen_all =
        ap (λ (n : ℕ). take n (log_ops flushed with_freeze)) (cut_at ∙ all_held)
        ∙ ap (take (length (log_ops flushed records))) held_same
        ∙ take-length (log_ops flushed records)

    active_none : active_ops flushed with_freeze ≡ []
    active_none =
        ap (λ (n : ℕ). drop n (log_ops flushed with_freeze)) (cut_at ∙ all_held)
        ∙ ap (drop (length (log_ops flushed records))) held_same
        ∙ drop-length (log_ops flushed records)

    -- what was behind the frozen end is up to it now
    moved : total_weight (frozen_ops flushed with_freeze) ≡ total_weight (active_ops flushed records)
    moved = ap total_weight (frozen_all ∙ sym active_all)

    none_weighed : total_weight (active_ops flushed with_freeze) ≡ 0
    none_weighed = ap total_weight active_none

    over_before : IsHeavy flushed records → IsHeavy flushed with_freeze
    over_before (inl over) = absurd (omega (arith, over, frozen_weighed))
    over_before (inr over) = inl (omega (arith, over, moved))

    pub freeze_taken : IsReading flushed with_freeze (record r { is_frozen = true; weight = 0 })
    freeze_taken = record {
      begun = begun_freeze flushed records at h.begun some_end;
      none = not_none;
      linked = linked_freeze;
      apart = apart_freeze flushed records at h.apart;
      once = omega (arith, one_freeze_now);
      last_is = h.last_is ∙ sym (end_freeze records at);
      free = λ none. absurd (true≢false none);
      frozen = λ some. omega (arith, one_freeze_now);
      count = count_more;
      within = omega (arith, cut_at, all_held, held_long);
      light = λ light. (let l = h.light light in let were = l.1 in let low = l.2 in (omega (arith, moved, were, low), sym none_weighed, omega arith));
      heavy = λ heavy. over_before (h.heavy heavy);
    }
