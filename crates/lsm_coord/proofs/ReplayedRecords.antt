-- What records hold that were replayed, and how many of them are up to a sequence.
use Rattle.std.proofs.Common.{◌≡◌, ℕ, suc, ◌+◌, ◌-◌, ◌<◌, ◌≤◌, Bool, true, false, cond, leb, List, [], ◌∷◌, ◌++◌, Option, None, Some, length, drop, refl, sym, ap, subst, ◌∙◌, arith, inl}
use Rattle.std.specs.Option.{option_map, unwrap_or}
use Rattle.std.proofs.lemmas.Bool.{eqb-true, le-leb, leb-true}
use Rattle.std.proofs.lemmas.List.{length-append, length-drop}
use Rattle.lsm_key.specs.declared.entry.Entry.{Entry}
use Rattle.lsm_key.specs.Places.{entries_after}
use Rattle.lsm_key.proofs.Membership.{SameMembers-permutation}
use Rattle.lsm_key.proofs.WritesOverStored.{entries_after-range}
use Rattle.lsm_edit.specs.declared.log_record.LogRecord.{LogRecord}
use Rattle.lsm_edit.specs.declared.log_record.LogRecord.TheVariants.{Write, Freeze}
use Rattle.lsm_edit.specs.Log.{BeginsLate, Linked, active_ops, end_of, log_frozen, log_ops}
use Rattle.lsm_edit.specs.LogLaws.{AreRecords}
use Rattle.lsm_edit.proofs.GrownLogs.{end_after, ends_on, ops_count}
use Rattle.lsm_edit.proofs.LogLaws.{not_above}
use Rattle.lsm_mem.specs.Memtable.{last_sequence}
use Rattle.lsm_mem.proofs.MemtableTotals.{last_low}
use Rattle.lsm_coord.specs.declared.frozen.Frozen.{Frozen}
use Rattle.lsm_coord.specs.declared.replay.Replayed.{Replayed}
use Rattle.lsm_coord.specs.Contract.Logs.{record_seq, records_upto}
use Rattle.lsm_coord.specs.Contract.Value.{start_of}
use Rattle.lsm_coord.specs.Inner.Replaying.{HasReplayed, write_is_next}

-- ---- records up to a sequence

-- a first record that is counted with all behind it
counted : (b : Bool) (k m : ℕ) → cond b (suc k) 0 ≡ suc m → (b ≡ true) × (k ≡ m)
counted true k m is = (refl, omega (arith, is))
counted false k m is = absurd (omega (arith, is))

-- behind records that are all up to a sequence, one more is too
pub upto_all : (n : ℕ) (records : List LogRecord) (r : LogRecord) → records_upto n records ≡ length records → record_seq r ≤ n → records_upto n (records ++ r ∷ []) ≡ length (records ++ r ∷ [])
upto_all n [] r all le = ap (λ (b : Bool). cond b (suc (records_upto n [])) 0) (le-leb (record_seq r) n le)
upto_all n (q ∷ records) r all le =
    let c = counted (leb (record_seq q) n) (records_upto n records) (length records) all in
    ap (λ (b : Bool). cond b (suc (records_upto n (records ++ r ∷ []))) 0) c.0 ∙ ap suc (upto_all n records r c.1 le)

-- ---- what records hold

-- records that begin in time and follow one another hold an operation for each sequence above the flushed one
pub held_count : (flushed : ℕ) (records : List LogRecord) → AreRecords records → (BeginsLate flushed records → ⊥) → Linked None records → (end : ℕ) → end_of records ≡ Some end → length (log_ops flushed records) ≡ end - flushed
held_count flushed [] sound begun linked end is = absurd cc
held_count flushed (Freeze at ∷ records) sound begun linked end is = absurd (begun tt)
held_count flushed (Write first ops ∷ records) sound begun linked end is =
    let last : ℕ = first + length ops - 1 in
    let e : ℕ = end_after last records in
    let same : e ≡ end = ap (λ (o : Option ℕ). unwrap_or o 0) is in
    let own = sound (Write first ops) (inl refl) in
    let one = own.0 in
    let some = own.1 in
    let on : last ≤ e = ends_on last records linked in
    let rest : length (log_ops flushed records) ≡ (e - flushed) - (last - flushed) = ops_count flushed last records linked in
    let low : first ≤ flushed + 1 = not_above (flushed + 1) first begun in
    omega (arith, same, one, some, on, rest, low, length-append (drop (flushed + 1 - first) ops) (log_ops flushed records), length-drop (flushed + 1 - first) ops)

-- where no write is, no record is
pub none_yet : (flushed : ℕ) (records : List LogRecord) → (BeginsLate flushed records → ⊥) → end_of records ≡ None → records ≡ []
none_yet flushed [] begun is = refl
none_yet flushed (Write first ops ∷ records) begun is = absurd cc
none_yet flushed (Freeze at ∷ records) begun is = absurd (begun tt)

-- ---- what was replayed

pub start_is : (o : Option Frozen) (n : ℕ) → start_of o n ≡ unwrap_or (option_map (λ (f : Frozen). f.end) o) n
start_is None n = refl
start_is (Some f) n = refl

module _ (flushed : ℕ) (records : List LogRecord) (r : Replayed) (h : HasReplayed flushed records r) where
  -- the active memtable begins after the frozen end
  pub start_same : start_of r.frozen flushed ≡ unwrap_or (log_frozen flushed records) flushed
  start_same = start_is r.frozen flushed ∙ ap (λ (o : Option ℕ). unwrap_or o flushed) h.frozen_end

  -- which is among what is held
  start_bounds : (o : Option Frozen) → r.frozen ≡ o → (flushed ≤ start_of o flushed) × (start_of o flushed - flushed ≤ length (log_ops flushed records))
  start_bounds None is = (omega arith, omega arith)
  start_bounds (Some f) is =
      let b = h.between f is in
      let above : flushed < f.end = b.0 in
      (omega (arith, above), by_end (end_of records) refl above b.1)
    where
      by_end : (o : Option ℕ) → end_of records ≡ o → flushed < f.end → f.end ≤ unwrap_or o 0 → f.end - flushed ≤ length (log_ops flushed records)
      by_end None at above low = absurd (omega (arith, above, low))
      by_end (Some end) at above low = (let count = held_count flushed records h.sound h.begun h.linked end at in omega (arith, count, above, low))

  pub start_low : flushed ≤ start_of r.frozen flushed
  start_low = (start_bounds r.frozen refl).0

  pub cut_within : unwrap_or (log_frozen flushed records) flushed - flushed ≤ length (log_ops flushed records)
  cut_within = (let within = (start_bounds r.frozen refl).1 in let same = start_same in omega (arith, within, same))

  -- a write that comes next begins after the last sequence
  pub after_last : (first : ℕ) → 1 ≤ first → write_is_next flushed r.last first ≡ true → unwrap_or (end_of records) 0 < first
  after_last first one next = by_end (end_of records) (subst (λ (o : Option ℕ). write_is_next flushed o first ≡ true) h.last_is next)
    where
      by_end : (o : Option ℕ) → write_is_next flushed o first ≡ true → unwrap_or o 0 < first
      by_end None is = omega (arith, one)
      by_end (Some last) is = (let same = eqb-true first (last + 1) is in omega (arith, same))

  -- if it is above the flushed sequence, it begins right after what the active memtable has
  pub seam : (first : ℕ) → write_is_next flushed r.last first ≡ true → flushed < first → start_of r.frozen flushed + length (active_ops flushed records) ≡ first - 1
  seam first next above = by_end (end_of records) refl (subst (λ (o : Option ℕ). write_is_next flushed o first ≡ true) h.last_is next)
    where
      cut : length (active_ops flushed records) ≡ length (log_ops flushed records) - (unwrap_or (log_frozen flushed records) flushed - flushed)
      cut = length-drop (unwrap_or (log_frozen flushed records) flushed - flushed) (log_ops flushed records)

      by_end : (o : Option ℕ) → end_of records ≡ o → write_is_next flushed o first ≡ true → start_of r.frozen flushed + length (active_ops flushed records) ≡ first - 1
      by_end None at is =
          let none : length (log_ops flushed records) ≡ 0 = ap (λ (l : List LogRecord). length (log_ops flushed l)) (none_yet flushed records h.begun at) in
          let low = leb-true first (flushed + 1) is in
          omega (arith, cut, none, low, above, start_low, start_same, cut_within)
      by_end (Some last) at is =
          let count = held_count flushed records h.sound h.begun h.linked last at in
          let same = eqb-true first (last + 1) is in
          omega (arith, cut, count, same, above, start_low, start_same, cut_within)

  -- the active memtable has no entry behind the last sequence
  pub recent : last_sequence r.active ≤ unwrap_or r.last 0
  recent = subst (λ (o : Option ℕ). last_sequence r.active ≤ unwrap_or o 0) (sym h.last_is) (last_low r.active (unwrap_or (end_of records) 0) (λ e m. each e (entries_after-range (start_of r.frozen flushed) (active_ops flushed records) e ((SameMembers-permutation r.active (entries_after (start_of r.frozen flushed) (active_ops flushed records)) h.active_is e).0 m))))
    where
      each : (e : Entry) → (start_of r.frozen flushed < e.ikey.seq) × (e.ikey.seq ≤ start_of r.frozen flushed + length (active_ops flushed records)) → e.ikey.seq ≤ unwrap_or (end_of records) 0
      each e range = by_end (end_of records) refl range.0 range.1
        where
          cut : length (active_ops flushed records) ≡ length (log_ops flushed records) - (unwrap_or (log_frozen flushed records) flushed - flushed)
          cut = length-drop (unwrap_or (log_frozen flushed records) flushed - flushed) (log_ops flushed records)

          by_end : (o : Option ℕ) → end_of records ≡ o → start_of r.frozen flushed < e.ikey.seq → e.ikey.seq ≤ start_of r.frozen flushed + length (active_ops flushed records) → e.ikey.seq ≤ unwrap_or o 0
          by_end None at above low =
              let none : length (log_ops flushed records) ≡ 0 = ap (λ (l : List LogRecord). length (log_ops flushed l)) (none_yet flushed records h.begun at) in
              omega (arith, cut, none, above, low)
          by_end (Some last) at above low =
              let count = held_count flushed records h.sound h.begun h.linked last at in
              omega (arith, cut, count, above, low, start_low, start_same, cut_within)
