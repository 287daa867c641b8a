-- Records with which a log is damaged, whatever comes after them.
use Rattle.std.proofs.Common.{◌≡◌, ℕ, ◌+◌, ◌<◌, ◌≤◌, false, true, List, ◌∷◌, ◌++◌, Option, None, Some, length, refl, sym, ap, subst, ◌∙◌, arith, inl}
use Rattle.std.proofs.lemmas.Bool.{eqb-false, leb-false}
use Rattle.std.proofs.lemmas.List.{length-append}
use Rattle.std.proofs.lemmas.List.Concat.{flat_map-append}
use Rattle.lsm_key.specs.declared.op.Op.{Op}
use Rattle.lsm_key.proofs.Membership.{IsIn-append_right}
use Rattle.lsm_edit.specs.declared.log_record.LogRecord.{LogRecord}
use Rattle.lsm_edit.specs.declared.log_record.LogRecord.TheVariants.{Write, Freeze}
use Rattle.lsm_edit.specs.Log.{BeginsLate, end_of, freeze_above, log_freezes}
use Rattle.lsm_edit.proofs.FlushedLogs.{one_freeze}
use Rattle.lsm_inspect.specs.declared.damage.LogDamage.TheVariants as damage
use Rattle.lsm_inspect.specs.declared.reading.LogReading.{LogReading}
use Rattle.lsm_inspect.specs.Log.{IsRecordsDamage}
use Rattle.lsm_inspect.specs.LogReading.{IsReading, late_or_elsewhere, late_or_gap, may_begin, may_freeze}

module _ (flushed : ℕ) (records : List LogRecord) (r : LogReading) (h : IsReading flushed records r) where
  -- ---- writes

  module _ (first : ℕ) (ops : List Op) (after : List LogRecord) where
    abbrev written : List LogRecord
    written = records ++ Write first ops ∷ after

    -- one that may not begin where it does begins late, or leaves a gap
    pub not_next : may_begin flushed r.last first ≡ false → IsRecordsDamage flushed written (late_or_gap r.last first)
    not_next other =
        subst (λ (o : Option ℕ). IsRecordsDamage flushed written (late_or_gap o first)) (sym h.last_is)
        (by_end (end_of records) refl (subst (λ (o : Option ℕ). may_begin flushed o first ≡ false) h.last_is other))
      where
        by_end : (o : Option ℕ) → end_of records ≡ o → may_begin flushed o first ≡ false → IsRecordsDamage flushed written (late_or_gap o first)
        by_end None is not =
            subst (λ (l : List LogRecord). BeginsLate flushed (l ++ Write first ops ∷ after)) (sym (h.none is)) (leb-false first (flushed + 1) not)
        by_end (Some last) is not =
            (record { before = records; first = first; ops = ops; after = after; end = last; parts = refl; ends = is; gap = eqb-false first (last + 1) not }, refl, refl)

    pub in_part : first ≤ flushed → flushed + 1 < first + length ops → IsRecordsDamage flushed written (damage.Straddles first)
    in_part low high = (record { first = first; ops = ops; among = IsIn-append_right (Write first ops) records (Write first ops ∷ after) (inl refl); low = low; high = high }, refl)

  -- ---- freezes

  module _ (place : ℕ) (after : List LogRecord) where
    abbrev frozen : List LogRecord
    frozen = records ++ Freeze place ∷ after

    -- one that is first, or elsewhere than at the last sequence
    pub not_there : may_freeze r.last place ≡ false → IsRecordsDamage flushed frozen (late_or_elsewhere r.last place)
    not_there other =
        subst (λ (o : Option ℕ). IsRecordsDamage flushed frozen (late_or_elsewhere o place)) (sym h.last_is)
        (by_end (end_of records) refl (subst (λ (o : Option ℕ). may_freeze o place ≡ false) h.last_is other))
      where
        by_end : (o : Option ℕ) → end_of records ≡ o → may_freeze o place ≡ false → IsRecordsDamage flushed frozen (late_or_elsewhere o place)
        by_end None is not = subst (λ (l : List LogRecord). BeginsLate flushed (l ++ Freeze place ∷ after)) (sym (h.none is)) tt
        by_end (Some last) is not =
            (record { before = records; at = place; after = after; end = last; parts = refl; ends = is; elsewhere = eqb-false place last not }, refl, refl)

    -- a second one above the flushed sequence
    pub twice : r.is_frozen ≡ true → flushed < place → IsRecordsDamage flushed frozen damage.FreezesTwice
    twice is above =
        let one = h.frozen is in
        let two = one_freeze flushed (Freeze place ∷ after) place above (inl refl) in
        let both : length (log_freezes flushed frozen) ≡ length (log_freezes flushed records) + length (log_freezes flushed (Freeze place ∷ after)) =
        ap length (flat_map-append (freeze_above flushed) records (Freeze place ∷ after)) ∙ length-append (log_freezes flushed records) (log_freezes flushed (Freeze place ∷ after)) in
        omega (arith, one, two, both)
