-- What a store's calls make of a good log.
use Rattle.std.proofs.Common.{◌≡◌, ℕ, ◌+◌, ◌-◌, false, true, List, [], ◌∷◌, ◌++◌, None, Some, Result, Ok, length, map, drop, refl, sym, ap, subst, ◌∙◌, arith, inl, inr}
use Rattle.std.specs.Prelude.{IsErr, is_err}
use Rattle.lsm_key.specs.declared.op.Op.{Op}
use Rattle.lsm_key.specs.Sets.{IsIn}
use Rattle.lsm_edit.specs.declared.format.FormatFault.{FormatFault}
use Rattle.lsm_edit.specs.declared.log_record.LogRecord.{LogRecord}
use Rattle.lsm_edit.specs.declared.log_record.LogRecord.TheVariants.{Write, Freeze}
use Rattle.lsm_edit.specs.LogRecord.{read_record, record_bytes}
use Rattle.lsm_edit.specs.Log.{BadLog, BadRecords, first_freeze, log_freezes, log_frozen, log_ops, read_records, spelled_record}
use Rattle.lsm_edit.specs.LogLaws.{ACutHoldsTheSame, AFreezeIsHeld, AFrozenEndIsFlushed, ALogIsFlushed, AWriteIsHeld, AreRecords, BytesHoldTheSame, RecordsHold}
use Rattle.lsm_edit.proofs.CutLogs.{cut_good}
use Rattle.lsm_edit.proofs.EmptiedLogs.{empty_good}
use Rattle.lsm_edit.proofs.FlushedLogs.{flush_good}
use Rattle.lsm_edit.proofs.GrownLogs.{freeze_good, write_good}
use Rattle.lsm_edit.proofs.LogLaws.{good_not_bad}
use Rattle.lsm_edit.proofs.LogRecordLaws.{record_again}

no_first : (l : List ℕ) → None ≡ first_freeze l → l ≡ []
no_first [] h = refl
no_first (n ∷ ns) h = cc

pub write_held : AWriteIsHeld
write_held flushed records ops more frozen held sound some room =
    let g = write_good flushed records held.good sound more some room in
    subst (λ (o : List Op). RecordsHold flushed (records ++ Write (flushed + length o + 1) more ∷ []) (o ++ more) frozen) (sym held.ops_are)
    (record { good = g.0; ops_are = sym g.1; frozen_is = held.frozen_is ∙ sym g.2 })

pub freeze_held : AFreezeIsHeld
freeze_held flushed records ops held sound some =
    let count : length ops ≡ length (log_ops flushed records) = ap length held.ops_are in
    let g = freeze_good flushed records held.good sound (no_first (log_freezes flushed records) held.frozen_is) (omega (arith, some, count)) in
    subst (λ (o : List Op). RecordsHold flushed (records ++ Freeze (flushed + length o) ∷ []) o (Some (flushed + length o))) (sym held.ops_are)
    (record { good = g.0; ops_are = sym g.1; frozen_is = sym g.2 })

pub frozen_flushed : AFrozenEndIsFlushed
frozen_flushed flushed records ops end held =
    let g = flush_good flushed records end held.good (sym held.frozen_is) in
    record { good = g.0; ops_are = ap (drop (end - flushed)) held.ops_are ∙ sym g.1; frozen_is = sym g.2 }

pub log_flushed : ALogIsFlushed
log_flushed flushed records ops held sound =
    let g = empty_good flushed records held.good sound (no_first (log_freezes flushed records) held.frozen_is) (flushed + length ops) (ap (λ (o : List Op). flushed + length o) held.ops_are) in
    record { good = g.0; ops_are = sym g.1; frozen_is = sym g.2 }

pub cut_held : ACutHoldsTheSame
cut_held flushed before records first more ops frozen held no_ops no_freezes low =
    let g = cut_good flushed before first more records held.good no_ops no_freezes low in
    record { good = g.0; ops_are = held.ops_are ∙ sym g.1; frozen_is = held.frozen_is ∙ sym g.2 }

-- ---- records as bytes

texts_read : (records : List LogRecord) → AreRecords records → read_records (map record_bytes records) ≡ records
texts_read [] are = refl
texts_read (r ∷ records) are =
    ap (λ (x : Result LogRecord FormatFault). spelled_record x ++ read_records (map record_bytes records)) (record_again (record_bytes r) r (record { sound = are r (inl refl); spelled = refl }))
    ∙ ap (λ (l : List LogRecord). r ∷ l) (texts_read records (λ q m. are q (inr m)))

texts_sound : (records : List LogRecord) → AreRecords records → (text : List ℕ) → IsIn text (map record_bytes records) → IsErr (read_record text) → ⊥
texts_sound [] are text m refused = m
texts_sound (r ∷ records) are text (inl same) refused =
    let read : read_record text ≡ Ok r = ap read_record same ∙ record_again (record_bytes r) r (record { sound = are r (inl refl); spelled = refl }) in
    let both : false ≡ true = ap is_err (sym read) ∙ refused in
    cc
texts_sound (r ∷ records) are text (inr m) refused = texts_sound records (λ q n. are q (inr n)) text m refused

pub bytes_held : BytesHoldTheSame
bytes_held flushed records ops frozen held are = record {
  good = by_case;
  ops_are = held.ops_are ∙ ap (log_ops flushed) (sym (texts_read records are));
  frozen_is = held.frozen_is ∙ ap (log_frozen flushed) (sym (texts_read records are));
}
  where
    by_case : BadLog flushed (map record_bytes records) → ⊥
    by_case (inl refused) = texts_sound records are refused.0 refused.1 refused.2
    by_case (inr bad) = good_not_bad flushed records held.good (subst (BadRecords flushed) (texts_read records are) bad)
