-- Records that no good log has next.
use Rattle.std.proofs.Common.{◌≡◌, ℕ, zero, suc, ◌+◌, ◌-◌, ◌<◌, ◌≤◌, false, true, cond, List, [], ◌∷◌, ◌++◌, ◌⊎◌, Option, None, Some, length, take, drop, refl, sym, ap, subst, ◌∙◌, arith, inl, inr}
use Rattle.std.specs.Option.{option_map, unwrap_or}
use Rattle.std.proofs.lemmas.Bool.{cases_lt, eqb-false, eqb-true, le-leb, le-ltb, leb-true, lt-ltb}
use Rattle.std.proofs.lemmas.List.{append_assoc, drop-append-le, length-append}
use Rattle.std.proofs.lemmas.List.Concat.{flat_map-append}
use Rattle.std.proofs.lemmas.List.Sums.{sum_by-append, sum_by-cons}
use Rattle.lsm_key.specs.declared.op.Op.{Op}
use Rattle.lsm_key.specs.declared.limits.TheConstants.{MAX_MEMTABLE_WEIGHT}
use Rattle.lsm_key.specs.Limits.{total_weight, weight_of}
use Rattle.lsm_key.proofs.Membership.{IsIn-append_right}
use Rattle.lsm_edit.specs.declared.log_record.LogRecord.{LogRecord}
use Rattle.lsm_edit.specs.declared.log_record.LogRecord.TheVariants.{Write, Freeze}
use Rattle.lsm_edit.specs.LogRecord.{IsRecord}
use Rattle.lsm_edit.specs.Log.{IsGood, Linked, active_ops, end_of, first_freeze, freeze_above, frozen_ops, log_freezes, log_frozen, log_ops, ops_above}
use Rattle.lsm_edit.proofs.FlushedLogs.{one_freeze}
use Rattle.lsm_edit.proofs.LogLaws.{linked_freezes, linked_writes, no_end}
use Rattle.lsm_coord.specs.declared.frozen.Frozen.{Frozen}
use Rattle.lsm_coord.specs.declared.replay.Replayed.{Replayed}
use Rattle.lsm_coord.specs.Inner.Replaying.{HasReplayed, write_is_next, is_at}
use Rattle.lsm_coord.proofs.ReplayedFreezes.{no_first}
use Rattle.lsm_coord.proofs.ReplayedRecords.{cut_within, held_count, none_yet}

-- ---- behind a write

linked_behind : (o : Option ℕ) (before : List LogRecord) (first : ℕ) (ops : List Op) (after : List LogRecord) → Linked o (before ++ Write first ops ∷ after) → Linked (Some (first + length ops - 1)) after
linked_behind None [] first ops after is = is
linked_behind (Some last) [] first ops after is = is.1
linked_behind None (Write f os ∷ before) first ops after is = linked_behind (Some (f + length os - 1)) before first ops after is
linked_behind (Some last) (Write f os ∷ before) first ops after is = linked_behind (Some (f + length os - 1)) before first ops after is.1
linked_behind None (Freeze at ∷ before) first ops after is = linked_behind None before first ops after is
linked_behind (Some last) (Freeze at ∷ before) first ops after is = linked_behind (Some last) before first ops after is.1

-- a frozen end is not before what stands ahead of it
frozen_behind : (flushed last : ℕ) (records : List LogRecord) (z : ℕ) → Linked (Some last) records → log_frozen flushed records ≡ Some z → last ≤ z
frozen_behind flushed last [] z is at = absurd cc
frozen_behind flushed last (Write f os ∷ records) z is at =
    let later : f + length os - 1 ≤ z = frozen_behind flushed (f + length os - 1) records z is.1 at in
    let next = is.0 in
    omega (arith, later, next)
frozen_behind flushed last (Freeze n ∷ records) z is at = by_test (frozen_behind flushed last records z is.1) (cases_lt flushed n)
  where
    by_test : (log_frozen flushed records ≡ Some z → last ≤ z) → (flushed < n) ⊎ (n ≤ flushed) → last ≤ z
    by_test rest (inl lt) =
        let same : Some n ≡ Some z = ap (λ b. first_freeze (cond b (n ∷ []) [] ++ log_freezes flushed records)) (sym (lt-ltb flushed n lt)) ∙ at in
        let z_is : n ≡ z = ap (λ (o : Option ℕ). unwrap_or o 0) same in
        let here = is.0 in
        omega (arith, z_is, here)
    by_test rest (inr le) = rest (ap (λ b. first_freeze (cond b (n ∷ []) [] ++ log_freezes flushed records)) (sym (le-ltb flushed n le)) ∙ at)

-- ---- lists

first_kept : (a b : List ℕ) (z : ℕ) → first_freeze a ≡ Some z → first_freeze (a ++ b) ≡ Some z
first_kept [] b z is = absurd cc
first_kept (n ∷ a) b z is = is

some_first : (l : List ℕ) (z : ℕ) → first_freeze l ≡ Some z → 1 ≤ length l
some_first [] z is = absurd cc
some_first (n ∷ l) z is = omega arith

-- what is taken of a list weighs at least what its first part does, if that is taken whole
front_weighs : (n : ℕ) (front back : List Op) → length front ≤ n → total_weight front ≤ total_weight (take n (front ++ back))
front_weighs n [] back le = omega arith
front_weighs zero (op ∷ front) back le = absurd (omega (arith, le))
front_weighs (suc n) (op ∷ front) back le =
    let rest : total_weight front ≤ total_weight (take n (front ++ back)) = front_weighs n front back (omega (arith, le)) in
    omega (arith, rest, sum_by-cons weight_of op front, sum_by-cons weight_of op (take n (front ++ back)))

module _ (flushed : ℕ) (records : List LogRecord) (r : Replayed) (h : HasReplayed flushed records r) where
  -- ---- writes

  module _ (first : ℕ) (ops : List Op) (after : List LogRecord) (good : IsGood flushed (records ++ Write first ops ∷ after)) where
    -- one that does not come next begins late, or leaves a gap
    pub not_next : write_is_next flushed r.last first ≡ false → ⊥
    not_next other = by_end (end_of records) refl (subst (λ (o : Option ℕ). write_is_next flushed o first ≡ false) h.last_is other)
      where
        by_end : (o : Option ℕ) → end_of records ≡ o → write_is_next flushed o first ≡ false → ⊥
        by_end None at not =
            let in_time = (subst (λ (l : List LogRecord). IsGood flushed (l ++ Write first ops ∷ after)) (none_yet flushed records h.begun at) good).begun in
            elim (cases_lt (flushed + 1) first) [
              | inl late ↦ in_time late
              | inr low ↦ (let next : false ≡ true = sym not ∙ le-leb first (flushed + 1) low in cc)
            ]
        by_end (Some last) at not =
            eqb-false first (last + 1) not (linked_writes records None first ops after last good.linked (no_end (end_of records) ∙ at))

    pub not_apart : first ≤ flushed → flushed < first + length ops - 1 → ⊥
    not_apart low high = good.apart (record { first = first; ops = ops; among = IsIn-append_right (Write first ops) records (Write first ops ∷ after) (inl refl); low = low; high = omega (arith, low, high) })

    -- ---- one that is too heavy

    module _ (own : IsRecord (Write first ops)) (next : write_is_next flushed r.last first ≡ true) (above : flushed < first) where
      abbrev whole : List LogRecord
      whole = records ++ Write first ops ∷ after

      none_below : flushed + 1 - first ≡ 0
      none_below = omega (arith, above)

      held_whole : log_ops flushed whole ≡ log_ops flushed records ++ (ops ++ log_ops flushed after)
      held_whole =
          flat_map-append (ops_above flushed) records (Write first ops ∷ after)
          ∙ ap (λ (n : ℕ). log_ops flushed records ++ (drop n ops ++ log_ops flushed after)) none_below

      freezes_whole : log_freezes flushed whole ≡ log_freezes flushed records ++ log_freezes flushed after
      freezes_whole = flat_map-append (freeze_above flushed) records (Write first ops ∷ after)

      -- how many operations are held up to the end of the write
      held_long : length (log_ops flushed records) + length ops ≡ first + length ops - 1 - flushed
      held_long = by_end (end_of records) refl (subst (λ (o : Option ℕ). write_is_next flushed o first ≡ true) h.last_is next)
        where
          by_end : (o : Option ℕ) → end_of records ≡ o → write_is_next flushed o first ≡ true → length (log_ops flushed records) + length ops ≡ first + length ops - 1 - flushed
          by_end None at is =
              let none : length (log_ops flushed records) ≡ 0 = ap (λ (l : List LogRecord). length (log_ops flushed l)) (none_yet flushed records h.begun at) in
              let low = leb-true first (flushed + 1) is in
              omega (arith, none, low, above)
          by_end (Some last) at is =
              let count = held_count flushed records h.sound h.begun h.linked last at in
              let same = eqb-true first (last + 1) is in
              omega (arith, count, same, above)

      -- where a memtable is frozen, the write is in the active one with what it had
      frozen_before : (z : ℕ) → log_frozen flushed records ≡ Some z → total_weight (active_ops flushed records) + total_weight ops ≤ MAX_MEMTABLE_WEIGHT
      frozen_before z at =
          let cut : ℕ = unwrap_or (log_frozen flushed records) flushed - flushed in
          let same : log_frozen flushed whole ≡ log_frozen flushed records = ap first_freeze freezes_whole ∙ first_kept (log_freezes flushed records) (log_freezes flushed after) z at ∙ sym at in
          let are : active_ops flushed whole ≡ active_ops flushed records ++ (ops ++ log_ops flushed after) =
          ap (λ (o : Option ℕ). drop (unwrap_or o flushed - flushed) (log_ops flushed whole)) same ∙ ap (drop cut) held_whole ∙ drop-append-le cut (log_ops flushed records) (ops ++ log_ops flushed after) (cut_within flushed records r h) in
          let weighs : total_weight (active_ops flushed whole) ≡ total_weight (active_ops flushed records) + total_weight (ops ++ log_ops flushed after) = ap total_weight are ∙ sum_by-append weight_of (active_ops flushed records) (ops ++ log_ops flushed after) in
          let light = good.active_light in
          omega (arith, weighs, light, sum_by-append weight_of ops (log_ops flushed after))

      -- where none is, all that is held up to the write is in one memtable
      module _ (none : log_freezes flushed records ≡ []) where
        frozen_whole : log_frozen flushed whole ≡ log_frozen flushed after
        frozen_whole = ap first_freeze (freezes_whole ∙ ap (λ (l : List ℕ). l ++ log_freezes flushed after) none)

        active_all : active_ops flushed records ≡ log_ops flushed records
        active_all = ap (λ (l : List ℕ). drop (unwrap_or (first_freeze l) flushed - flushed) (log_ops flushed records)) none ∙ ap (λ (n : ℕ). drop n (log_ops flushed records)) (zero_is flushed)
          where
            zero_is : (n : ℕ) → n - n ≡ 0
            zero_is n = omega arith

        parts_weigh : total_weight (log_ops flushed records ++ ops) ≡ total_weight (active_ops flushed records) + total_weight ops
        parts_weigh = sum_by-append weight_of (log_ops flushed records) ops ∙ ap (λ (l : List Op). total_weight l + total_weight ops) (sym active_all)

        held_split : log_ops flushed whole ≡ (log_ops flushed records ++ ops) ++ log_ops flushed after
        held_split = held_whole ∙ sym (append_assoc (log_ops flushed records) ops (log_ops flushed after))

        none_before : (o : Option ℕ) → log_frozen flushed after ≡ o → total_weight (active_ops flushed records) + total_weight ops ≤ MAX_MEMTABLE_WEIGHT
        none_before None at =
            let zero_is : flushed - flushed ≡ 0 = omega arith in
            let are : active_ops flushed whole ≡ (log_ops flushed records ++ ops) ++ log_ops flushed after =
            ap (λ (p : Option ℕ). drop (unwrap_or p flushed - flushed) (log_ops flushed whole)) (frozen_whole ∙ at) ∙ ap (λ (n : ℕ). drop n (log_ops flushed whole)) zero_is ∙ held_split in
            let weighs : total_weight (active_ops flushed whole) ≡ total_weight (log_ops flushed records ++ ops) + total_weight (log_ops flushed after) = ap total_weight are ∙ sum_by-append weight_of (log_ops flushed records ++ ops) (log_ops flushed after) in
            let light = good.active_light in
            omega (arith, weighs, light, parts_weigh)
        none_before (Some z) at =
            let last : ℕ = first + length ops - 1 in
            let there : last ≤ z = frozen_behind flushed last after z (linked_behind None records first ops after good.linked) at in
            let are : frozen_ops flushed whole ≡ take (z - flushed) ((log_ops flushed records ++ ops) ++ log_ops flushed after) =
            ap (λ (p : Option ℕ). take (unwrap_or p flushed - flushed) (log_ops flushed whole)) (frozen_whole ∙ at) ∙ ap (take (z - flushed)) held_split in
            let long = length-append (log_ops flushed records) ops in
            let within : length (log_ops flushed records ++ ops) ≤ z - flushed = omega (arith, long, held_long, there) in
            let weighs : total_weight (frozen_ops flushed whole) ≡ total_weight (take (z - flushed) ((log_ops flushed records ++ ops) ++ log_ops flushed after)) = ap total_weight are in
            let heavy = front_weighs (z - flushed) (log_ops flushed records ++ ops) (log_ops flushed after) within in
            let light = good.frozen_light in
            omega (arith, weighs, heavy, light, parts_weigh)

      pub fits : total_weight (active_ops flushed records) + total_weight ops ≤ MAX_MEMTABLE_WEIGHT
      fits = by_frozen (log_frozen flushed records) refl
        where
          by_frozen : (o : Option ℕ) → log_frozen flushed records ≡ o → total_weight (active_ops flushed records) + total_weight ops ≤ MAX_MEMTABLE_WEIGHT
          by_frozen None at = none_before (no_first (log_freezes flushed records) at) (log_frozen flushed after) refl
          by_frozen (Some z) at = frozen_before z at

  -- ---- freezes

  module _ (at : ℕ) (after : List LogRecord) (good : IsGood flushed (records ++ Freeze at ∷ after)) where
    -- one that is first, or elsewhere than at the last sequence
    pub not_there : is_at r.last at ≡ false → ⊥
    not_there other = by_end (end_of records) refl (subst (λ (o : Option ℕ). is_at o at ≡ false) h.last_is other)
      where
        by_end : (o : Option ℕ) → end_of records ≡ o → is_at o at ≡ false → ⊥
        by_end None is not = (subst (λ (l : List LogRecord). IsGood flushed (l ++ Freeze at ∷ after)) (none_yet flushed records h.begun is) good).begun tt
        by_end (Some last) is not = eqb-false at last not (linked_freezes records None at after last good.linked (no_end (end_of records) ∙ is))

    -- a second one above the flushed sequence
    pub not_twice : (f : Frozen) → r.frozen ≡ Some f → flushed < at → ⊥
    not_twice f is above =
        let frozen : log_frozen flushed records ≡ Some f.end = sym h.frozen_end ∙ ap (option_map (λ (x : Frozen). x.end)) is in
        let one = some_first (log_freezes flushed records) f.end frozen in
        let two = one_freeze flushed (Freeze at ∷ after) at above (inl refl) in
        let both : length (log_freezes flushed (records ++ Freeze at ∷ after)) ≡ length (log_freezes flushed records) + length (log_freezes flushed (Freeze at ∷ after)) =
        ap length (flat_map-append (freeze_above flushed) records (Freeze at ∷ after)) ∙ length-append (log_freezes flushed records) (log_freezes flushed (Freeze at ∷ after)) in
        let once = good.once in
        omega (arith, one, two, both, once)
