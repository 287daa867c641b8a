-- What a coordinator has of its log, and what writes, freezes and flushes make of it.
use Rattle.std.proofs.Common.{◌≡◌, ℕ, ◌+◌, ◌-◌, ◌<◌, ◌≤◌, List, [], ◌∷◌, ◌++◌, Option, None, Some, length, map, take, drop, refl, sym, ap, subst, ◌∙◌, arith, inl, inr}
use Rattle.std.specs.Prelude.{sum_by}
use Rattle.std.specs.Option.{option_map, unwrap_or}
use Rattle.std.specs.List.Sorted.{IsPermutation}
use Rattle.std.proofs.lemmas.List.{drop-map, drop_all, length-append, length-drop, length-map, map-append, take-append-drop, take-append-le, take_all}
use Rattle.std.proofs.lemmas.List.Sorted.{IsPermutation-append, IsPermutation-refl, IsPermutation-sym, IsPermutation-trans, length_permutation, sum_by-IsPermutation}
use Rattle.lsm_key.specs.declared.entry.Entry.{Entry}
use Rattle.lsm_key.specs.declared.limits.TheConstants.{MAX_MEMTABLE_WEIGHT}
use Rattle.lsm_key.specs.declared.op.Op.{Op}
use Rattle.lsm_key.specs.declared.seq.TheConstants.Seq as seq
use Rattle.lsm_key.specs.Limits.{batch_fault, entry_weight, total_weight}
use Rattle.lsm_key.specs.Places.{entries_after}
use Rattle.lsm_key.specs.Sets.{IsIn}
use Rattle.lsm_key.proofs.Membership.{IsIn-append_cases, IsIn-append_right, IsIn-one}
use Rattle.lsm_key.proofs.RecentOverStored.{drop-append_le}
use Rattle.lsm_key.proofs.WritesOverStored.{entries_after-append, length-entries_after, weight-entries_after}
use Rattle.lsm_edit.specs.declared.log_record.LogRecord.{LogRecord}
use Rattle.lsm_edit.specs.declared.log_record.LogRecord.TheVariants.{Write, Freeze}
use Rattle.lsm_edit.specs.LogRecord.{IsRecord, record_bytes}
use Rattle.lsm_edit.specs.Log.{LogHolds, active_ops, log_ops, read_records}
use Rattle.lsm_edit.specs.LogLaws.{AreRecords, RecordsHold}
use Rattle.lsm_edit.proofs.HeldLogs.{bytes_held, freeze_held, frozen_flushed, log_flushed, write_held}
use Rattle.lsm_edit.proofs.LogLaws.{drop_none, take_none}
use Rattle.lsm_coord.specs.declared.frozen.Frozen.{Frozen}
use Rattle.lsm_coord.specs.Contract.Calls.{active_after, flush_source_of}
use Rattle.lsm_coord.specs.Contract.Logs.{IsLogged, MayCut, records_upto}
use Rattle.lsm_coord.specs.Contract.Value.{frozen_entries, start_of}
use Rattle.lsm_coord.proofs.LogCuts.{all_upto, cut_keeps, last_fits, records_are}

abbrev pub end_in : Option Frozen → Option ℕ
end_in frozen = option_map (λ (f : Frozen). f.end) frozen

starts : (frozen : Option Frozen) (flushed : ℕ) → start_of frozen flushed ≡ unwrap_or (end_in frozen) flushed
starts None flushed = refl
starts (Some f) flushed = refl

none_more : (n : ℕ) → n - n ≡ 0
none_more n = omega arith

-- ---- records and their bytes

pub held_log : (flushed : ℕ) (records : List LogRecord) (ops : List Op) (frozen : Option ℕ) (log : List (List ℕ)) → log ≡ map record_bytes records → AreRecords records → RecordsHold flushed records ops frozen → LogHolds flushed log ops frozen
held_log flushed records ops frozen log spelled sound held = subst (λ (t : List (List ℕ)). LogHolds flushed t ops frozen) (sym spelled) (bytes_held flushed records ops frozen held sound)

more_spelled : (records : List LogRecord) (r : LogRecord) (log : List (List ℕ)) → log ≡ map record_bytes records → log ++ record_bytes r ∷ [] ≡ map record_bytes (records ++ r ∷ [])
more_spelled records r log spelled = ap (λ (t : List (List ℕ)). t ++ record_bytes r ∷ []) spelled ∙ sym (map-append record_bytes records (r ∷ []))

more_sound : (records : List LogRecord) (r : LogRecord) → AreRecords records → IsRecord r → AreRecords (records ++ r ∷ [])
more_sound records r are is q m = elim (IsIn-append_cases q records (r ∷ []) m) [
  | inl old ↦ are q old
  | inr last ↦ subst IsRecord (sym (IsIn-one q r last)) is
]

pub read_more : (records : List LogRecord) (r : LogRecord) (log : List (List ℕ)) → log ≡ map record_bytes records → AreRecords records → IsRecord r → read_records (log ++ record_bytes r ∷ []) ≡ records ++ r ∷ []
read_more records r log spelled are is = records_are (records ++ r ∷ []) (log ++ record_bytes r ∷ []) (more_spelled records r log spelled) (more_sound records r are is)

-- the same in other words
pub held_as : (flushed at : ℕ) (log : List (List ℕ)) (ops others : List Op) (frozen other : Option ℕ) → at ≡ flushed → ops ≡ others → other ≡ frozen → LogHolds flushed log ops frozen → LogHolds at log others other
held_as flushed at log ops others frozen other here same end held = subst (λ (n : ℕ). LogHolds n log others other) (sym here) (subst (λ (os : List Op). LogHolds flushed log os other) same (subst (λ (z : Option ℕ). LogHolds flushed log ops z) (sym end) held))

-- ---- cuts

-- what a cut leaves of records
record IsLeft (flushed : ℕ) (records : List LogRecord) (log : List (List ℕ)) : Type 0 where
  pub left : List LogRecord
  pub spelled : log ≡ map record_bytes left
  pub sound : AreRecords left
  pub holds : (ops : List Op) (frozen : Option ℕ) → RecordsHold flushed records ops frozen → RecordsHold flushed left ops frozen

may_cut : (flushed : ℕ) (records : List LogRecord) (log new : List (List ℕ)) → log ≡ map record_bytes records → AreRecords records → MayCut flushed log new → IsLeft flushed records new
may_cut flushed records log new spelled are (inl same) = record { left = records; spelled = same ∙ spelled; sound = are; holds = λ ops frozen held. held }
may_cut flushed records log new spelled are (inr cut) =
    let n : ℕ = records_upto flushed records in
    let read : read_records log ≡ records = records_are records log spelled are in
    record {
      left = drop n records;
      spelled = cut ∙ (λ i. drop (records_upto flushed (read i)) (spelled i)) ∙ drop-map record_bytes n records;
      sound = λ r m. are r (subst (IsIn r) (take-append-drop n records) (IsIn-append_right r (take n records) (drop n records) m));
      holds = λ ops frozen held. cut_keeps flushed records ops frozen held;
    }

-- a log of which the records up to the flushed sequence may be cut has the same
pub cut_logged : (active : List Entry) (frozen : Option Frozen) (last flushed : ℕ) (log new : List (List ℕ)) → IsLogged active frozen last flushed log → MayCut flushed log new → IsLogged active frozen last flushed new
cut_logged active frozen last flushed log new l cut =
    let c = may_cut flushed l.records log new l.spelled l.sound cut in
    record { records = c.left; spelled = c.spelled; sound = c.sound; ops = l.ops; holds = c.holds l.ops (end_in frozen) l.holds; last_is = l.last_is; active_is = l.active_is; frozen_is = l.frozen_is }

-- and holds the same
pub cut_holds : (active : List Entry) (frozen : Option Frozen) (last flushed : ℕ) (log new : List (List ℕ)) (l : IsLogged active frozen last flushed log) → MayCut flushed log new → LogHolds flushed new l.ops (end_in frozen)
cut_holds active frozen last flushed log new l cut =
    let c = may_cut flushed l.records log new l.spelled l.sound cut in
    held_log flushed c.left l.ops (end_in frozen) new c.spelled c.sound (c.holds l.ops (end_in frozen) l.holds)

-- ---- what the log holds

module _ (active : List Entry) (frozen : Option Frozen) (last flushed : ℕ) (log : List (List ℕ)) (l : IsLogged active frozen last flushed log) where
  pub log_holds : LogHolds flushed log l.ops (end_in frozen)
  log_holds = held_log flushed l.records l.ops (end_in frozen) log l.spelled l.sound l.holds

  -- all of its records are up to the last sequence
  pub whole_upto : records_upto last (read_records log) ≡ length log
  whole_upto =
      ap (records_upto last) (records_are l.records log l.spelled l.sound) ∙ ap (λ (n : ℕ). records_upto n l.records) l.last_is
      ∙ all_upto flushed l.records l.ops (end_in frozen) l.holds l.sound ∙ sym (length-map l.records record_bytes) ∙ ap length (sym l.spelled)

  -- what it holds is what other words say that it holds
  pub same_ops : (at : ℕ) (ops : List Op) (z : Option ℕ) → at ≡ flushed → LogHolds at log ops z → l.ops ≡ ops
  same_ops at ops z here other = log_holds.ops_are ∙ ap (λ (n : ℕ). log_ops n (read_records log)) (sym here) ∙ sym other.ops_are

  -- ---- a write

  module _ (low : flushed ≤ start_of frozen flushed) (high : start_of frozen flushed ≤ last) where
    abbrev start : ℕ
    start = start_of frozen flushed

    abbrev own : List Op
    own = drop (start - flushed) l.ops

    within : start - flushed ≤ length l.ops
    within = let last_is = l.last_is in omega (arith, last_is, low, high)

    active_are : own ≡ active_ops flushed l.records
    active_are =
        let same : start ≡ unwrap_or (end_in frozen) flushed = starts frozen flushed in
        let begins = same ∙ ap (λ (o : Option ℕ). unwrap_or o flushed) l.holds.frozen_is in
        λ i. drop (begins i - flushed) (l.holds.ops_are i)

    active_weighs : total_weight (active_ops flushed l.records) ≡ sum_by entry_weight active
    active_weighs = ap total_weight (sym active_are) ∙ sym (weight-entries_after start own) ∙ sum_by-IsPermutation entry_weight active (entries_after start own) l.active_is

    module _ (more : List Op) (some : 1 ≤ length more) (fits : last + length more ≤ seq.MAX) (good : batch_fault more ≡ None) (room : sum_by entry_weight active + total_weight more ≤ MAX_MEMTABLE_WEIGHT) where
      abbrev written : LogRecord
      written = Write (last + 1) more

      pub written_is : IsRecord written
      written_is = (omega arith, some, omega (arith, fits), good)

      written_holds : RecordsHold flushed (l.records ++ written ∷ []) (l.ops ++ more) (end_in frozen)
      written_holds =
          let light : total_weight (active_ops flushed l.records) + total_weight more ≤ MAX_MEMTABLE_WEIGHT = omega (arith, active_weighs, room) in
          subst (λ (n : ℕ). RecordsHold flushed (l.records ++ Write (n + 1) more ∷ []) (l.ops ++ more) (end_in frozen)) (sym l.last_is) (write_held flushed l.records l.ops more (end_in frozen) l.holds l.sound some light)

      pub write_holds : LogHolds flushed (log ++ record_bytes written ∷ []) (l.ops ++ more) (end_in frozen)
      write_holds = held_log flushed (l.records ++ written ∷ []) (l.ops ++ more) (end_in frozen) (log ++ record_bytes written ∷ []) (more_spelled l.records written log l.spelled) (more_sound l.records written l.sound written_is) written_holds

      pub write_logged : (new : List Entry) → IsPermutation (active ++ entries_after last more) new → IsLogged new frozen (last + length more) flushed (log ++ record_bytes written ∷ [])
      write_logged new perm =
          let last_is = l.last_is in
          let seam : start + length own ≡ last = omega (arith, length-drop (start - flushed) l.ops, last_is, low, high) in
          let fresh : entries_after start (drop (start - flushed) (l.ops ++ more)) ≡ entries_after start own ++ entries_after last more =
          ap (entries_after start) (drop-append_le (start - flushed) l.ops more within) ∙ entries_after-append start own more ∙ ap (λ (n : ℕ). entries_after start own ++ entries_after n more) seam in
          record {
            records = l.records ++ written ∷ [];
            spelled = more_spelled l.records written log l.spelled;
            sound = more_sound l.records written l.sound written_is;
            ops = l.ops ++ more;
            holds = written_holds;
            last_is = omega (arith, last_is, length-append l.ops more);
            active_is = subst (IsPermutation new) (sym fresh) (IsPermutation-trans new (active ++ entries_after last more) (entries_after start own ++ entries_after last more) (IsPermutation-sym (active ++ entries_after last more) new perm)
                (IsPermutation-append active (entries_after start own) (entries_after last more) (entries_after last more) l.active_is (IsPermutation-refl (entries_after last more))));
            frozen_is = subst (λ (ws : List Op). IsPermutation (frozen_entries frozen) (entries_after flushed ws)) (sym (take-append-le (start - flushed) l.ops more within)) l.frozen_is;
          }

-- ---- a freeze

module _ (active : List Entry) (last flushed : ℕ) (log : List (List ℕ)) (l : IsLogged active None last flushed log) (some : 0 < length active) where
  all_own : drop (flushed - flushed) l.ops ≡ l.ops
  all_own = ap (λ (n : ℕ). drop n l.ops) (none_more flushed)

  some_op : 1 ≤ length l.ops
  some_op =
      omega (arith, some, length_permutation active (entries_after flushed (drop (flushed - flushed) l.ops)) l.active_is, length-entries_after flushed (drop (flushed - flushed) l.ops), length-drop (flushed - flushed) l.ops)

  freeze_is : IsRecord (Freeze last)
  freeze_is =
      let last_is = l.last_is in
      let fits = last_fits flushed l.records l.ops None l.holds l.sound some_op in
      (omega (arith, last_is, some_op), omega (arith, last_is, fits))

  frozen_holds : RecordsHold flushed (l.records ++ Freeze last ∷ []) l.ops (Some last)
  frozen_holds = subst (λ (n : ℕ). RecordsHold flushed (l.records ++ Freeze n ∷ []) l.ops (Some n)) (sym l.last_is) (freeze_held flushed l.records l.ops l.holds l.sound some_op)

  pub freeze_holds : LogHolds flushed (log ++ record_bytes (Freeze last) ∷ []) l.ops (Some last)
  freeze_holds = held_log flushed (l.records ++ Freeze last ∷ []) l.ops (Some last) (log ++ record_bytes (Freeze last) ∷ []) (more_spelled l.records (Freeze last) log l.spelled) (more_sound l.records (Freeze last) l.sound freeze_is) frozen_holds

  pub freeze_logged : IsLogged [] (Some (record { memtable = active; end = last })) last flushed (log ++ record_bytes (Freeze last) ∷ [])
  freeze_logged =
      let last_is = l.last_is in
      let all : length l.ops ≤ last - flushed = omega (arith, last_is) in
      record {
        records = l.records ++ Freeze last ∷ [];
        spelled = more_spelled l.records (Freeze last) log l.spelled;
        sound = more_sound l.records (Freeze last) l.sound freeze_is;
        ops = l.ops;
        holds = frozen_holds;
        last_is = last_is;
        active_is = subst (λ (ws : List Op). IsPermutation [] (entries_after last ws)) (sym (drop_all (last - flushed) l.ops all)) (IsPermutation-refl []);
        frozen_is = subst (λ (ws : List Op). IsPermutation active (entries_after flushed ws)) (all_own ∙ sym (take_all (last - flushed) l.ops all)) l.active_is;
      }

-- ---- a flush

-- over its end the same records hold what is left
flushed_holds : (active : List Entry) (frozen : Option Frozen) (last flushed : ℕ) (log : List (List ℕ)) (l : IsLogged active frozen last flushed log)
    → RecordsHold (flush_source_of active last frozen).end l.records (drop ((flush_source_of active last frozen).end - flushed) l.ops) None
flushed_holds active (Some f) last flushed log l = frozen_flushed flushed l.records l.ops f.end l.holds
flushed_holds active None last flushed log l =
    let last_is = l.last_is in
    let none : drop (last - flushed) l.ops ≡ [] = drop_all (last - flushed) l.ops (omega (arith, last_is)) in
    subst (λ (ops : List Op). RecordsHold last l.records ops None) (sym none)
    (subst (λ (n : ℕ). RecordsHold n l.records [] None) (sym last_is) (log_flushed flushed l.records l.ops l.holds l.sound))

pub flush_holds : (active : List Entry) (frozen : Option Frozen) (last flushed : ℕ) (log new : List (List ℕ)) (l : IsLogged active frozen last flushed log) → MayCut (flush_source_of active last frozen).end log new
    → LogHolds (flush_source_of active last frozen).end new (drop ((flush_source_of active last frozen).end - flushed) l.ops) None
flush_holds active frozen last flushed log new l cut =
    let end : ℕ = (flush_source_of active last frozen).end in
    let c = may_cut end l.records log new l.spelled l.sound cut in
    held_log end c.left (drop (end - flushed) l.ops) None new c.spelled c.sound (c.holds (drop (end - flushed) l.ops) None (flushed_holds active frozen last flushed log l))

-- without a cut
flushed_whole : (active : List Entry) (frozen : Option Frozen) (last flushed : ℕ) (log : List (List ℕ)) → IsLogged active frozen last flushed log → flushed ≤ start_of frozen flushed → start_of frozen flushed ≤ last
    → IsLogged (active_after active frozen) None last (flush_source_of active last frozen).end log
flushed_whole active (Some f) last flushed log l low high =
    let last_is = l.last_is in
    let left : List Op = drop (f.end - flushed) l.ops in
    let zero_is : f.end - f.end ≡ 0 = none_more f.end in
    record {
      records = l.records;
      spelled = l.spelled;
      sound = l.sound;
      ops = left;
      holds = flushed_holds active (Some f) last flushed log l;
      last_is = omega (arith, last_is, length-drop (f.end - flushed) l.ops, low, high);
      active_is = subst (λ (n : ℕ). IsPermutation active (entries_after f.end (drop n left))) (sym zero_is) l.active_is;
      frozen_is = subst (λ (n : ℕ). IsPermutation [] (entries_after f.end (take n left))) (sym zero_is) (IsPermutation-refl []);
    }
flushed_whole active None last flushed log l low high =
    let last_is = l.last_is in
    let none : drop (last - flushed) l.ops ≡ [] = drop_all (last - flushed) l.ops (omega (arith, last_is)) in
    record {
      records = l.records;
      spelled = l.spelled;
      sound = l.sound;
      ops = [];
      holds = subst (λ (ops : List Op). RecordsHold last l.records ops None) none (flushed_holds active None last flushed log l);
      last_is = omega arith;
      active_is = subst (λ (ws : List Op). IsPermutation [] (entries_after last ws)) (sym (drop_none (last - last))) (IsPermutation-refl []);
      frozen_is = subst (λ (ws : List Op). IsPermutation [] (entries_after last ws)) (sym (take_none (last - last))) (IsPermutation-refl []);
    }

pub flush_logged : (active : List Entry) (frozen : Option Frozen) (last flushed : ℕ) (log new : List (List ℕ)) → IsLogged active frozen last flushed log → flushed ≤ start_of frozen flushed → start_of frozen flushed ≤ last
    → MayCut (flush_source_of active last frozen).end log new → IsLogged (active_after active frozen) None last (flush_source_of active last frozen).end new
flush_logged active frozen last flushed log new l low high cut =
    cut_logged (active_after active frozen) None last (flush_source_of active last frozen).end log new (flushed_whole active frozen last flushed log l low high) cut
