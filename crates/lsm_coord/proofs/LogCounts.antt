-- How many records a log has, and how many a flush cuts.
use Rattle.std.proofs.Common.{◌≡◌, ℕ, ◌+◌, ◌<◌, ◌⊎◌, List, [], ◌∷◌, ◌++◌, Option, None, Some, IfSome, drop, length, map, inl, inr, refl, sym, ap, subst, ◌∙◌, arith}
use Rattle.std.proofs.lemmas.List.{length-append}
use Rattle.lsm_key.specs.declared.entry.Entry.{Entry}
use Rattle.lsm_edit.specs.declared.log_record.LogRecord.{LogRecord}
use Rattle.lsm_edit.specs.LogRecord.{IsRecord, record_bytes}
use Rattle.lsm_edit.specs.Log.{read_records}
use Rattle.lsm_edit.specs.LogLaws.{AreRecords}
use Rattle.lsm_coord.specs.declared.frozen.Frozen.{Frozen}
use Rattle.lsm_coord.specs.Contract.Calls.{flush_source_of}
use Rattle.lsm_coord.specs.Contract.Logs.{IsCounted, IsLogged, MayCut, record_seq, records_upto}
use Rattle.lsm_coord.proofs.LogCuts.{records_are, upto_more}
use Rattle.lsm_coord.proofs.LoggedCalls.{read_more, whole_upto}

-- what holds of a known number may be said in other words
if_some_as : (o : Option ℕ) (P Q : ℕ → Type 0) → ((n : ℕ) → P n → Q n) → IfSome o P → IfSome o Q
if_some_as None P Q told h = tt
if_some_as (Some n) P Q told h = told n h

pub count_more : (logged new : Option ℕ) (log : List (List ℕ)) (text : List ℕ) → IfSome logged (λ n. n ≡ length log) → IfSome new (λ n. (m : ℕ) × (logged ≡ Some m) × (n ≡ m + 1)) → IfSome new (λ n. n ≡ length (log ++ text ∷ []))
count_more logged new log text right grown =
    if_some_as new (λ n. (m : ℕ) × (logged ≡ Some m) × (n ≡ m + 1)) (λ n. n ≡ length (log ++ text ∷ []))
    (λ n g.
    let m : ℕ = g.0 in
    let before : m ≡ length log = subst (λ (o : Option ℕ). IfSome o (λ k. k ≡ length log)) g.1 right in
    let one = g.2 in
    omega (arith, before, one, length-append log (text ∷ [])))
    grown

-- with a record after them that is above what is frozen, the frozen part is the same
pub write_counted : (frozen : Option Frozen) (log : List (List ℕ)) (records : List LogRecord) (r : LogRecord) (logged upto new : Option ℕ) → log ≡ map record_bytes records → AreRecords records → IsRecord r → ((f : Frozen) → frozen ≡ Some f → f.end < record_seq r)
    → IsCounted frozen log logged upto → IfSome new (λ n. (m : ℕ) × (logged ≡ Some m) × (n ≡ m + 1)) → IsCounted frozen (log ++ record_bytes r ∷ []) new upto
write_counted frozen log records r logged upto new spelled are is above counted grown = record {
  all = count_more logged new log (record_bytes r) counted.all grown;
  frozen_part = if_some_as upto (λ n. (f : Frozen) → frozen ≡ Some f → n ≡ records_upto f.end (read_records log)) (λ n. (f : Frozen) → frozen ≡ Some f → n ≡ records_upto f.end (read_records (log ++ record_bytes r ∷ [])))
      (λ n h f e. h f e ∙ ap (records_upto f.end) (records_are records log spelled are) ∙ sym (upto_more f.end records r (above f e)) ∙ ap (records_upto f.end) (sym (read_more records r log spelled are is)))
      counted.frozen_part;
}

-- where all that the log has is frozen, the frozen part is all of it
pub freeze_counted : (active : List Entry) (z : Frozen) (last flushed : ℕ) (log new : List (List ℕ)) (text : List ℕ) (logged count : Option ℕ) → z.end ≡ last → new ≡ log ++ text ∷ [] → IsLogged active (Some z) last flushed new
    → IfSome logged (λ n. n ≡ length log) → IfSome count (λ n. (m : ℕ) × (logged ≡ Some m) × (n ≡ m + 1)) → IsCounted (Some z) new count count
freeze_counted active z last flushed log new text logged count end grows l right grown =
    let all : IfSome count (λ n. n ≡ length new) = subst (λ (t : List (List ℕ)). IfSome count (λ n. n ≡ length t)) (sym grows) (count_more logged count log text right grown) in
    record {
      all = all;
      frozen_part = if_some_as count (λ n. n ≡ length new) (λ n. (f : Frozen) → Some z ≡ Some f → n ≡ records_upto f.end (read_records new))
          (λ n long f e.
          let same : z ≡ f = cc in
          long ∙ sym (whole_upto active (Some z) last flushed new l) ∙ ap (λ (k : ℕ). records_upto k (read_records new)) (sym end ∙ ap (λ (x : Frozen). x.end) same))
          all;
    }

-- what is cut by that count
pub may_cut_by : (end : ℕ) (log new : List (List ℕ)) (upto : Option ℕ) → IfSome upto (λ n. n ≡ records_upto end (read_records log)) → (new ≡ log) ⊎ ((n : ℕ) × (upto ≡ Some n) × (new ≡ drop n log)) → MayCut end log new
may_cut_by end log new upto is (inl same) = inl same
may_cut_by end log new upto is (inr cut) = inr (cut.2 ∙ ap (λ (k : ℕ). drop k log) (subst (λ (o : Option ℕ). IfSome o (λ k. k ≡ records_upto end (read_records log))) cut.1 is))

-- what a flush cuts
pub flush_counted : (active : List Entry) (frozen : Option Frozen) (last flushed : ℕ) (log : List (List ℕ)) (logged upto : Option ℕ) → IsLogged active frozen last flushed log → IsCounted frozen log logged upto
    → ((f : Frozen) → frozen ≡ Some f → IfSome upto (λ n. n ≡ records_upto (flush_source_of active last frozen).end (read_records log)))
    × (frozen ≡ None → IfSome logged (λ n. n ≡ records_upto (flush_source_of active last frozen).end (read_records log)))
flush_counted active (Some f) last flushed log logged upto l counted = (
  λ g e. if_some_as upto (λ n. (x : Frozen) → Some f ≡ Some x → n ≡ records_upto x.end (read_records log)) (λ n. n ≡ records_upto f.end (read_records log)) (λ n h. h f refl) counted.frozen_part,
  λ e. absurd cc,
)
flush_counted active None last flushed log logged upto l counted = (
  λ g e. absurd cc,
  λ e. if_some_as logged (λ n. n ≡ length log) (λ n. n ≡ records_upto last (read_records log)) (λ n long. long ∙ sym (whole_upto active None last flushed log l)) counted.all,
)
