-- A good log holds the same without the records up to the flushed sequence.
use Rattle.std.proofs.Common.{◌≡◌, ℕ, ◌+◌, ◌-◌, ◌<◌, ◌≤◌, true, false, cond, leb, List, [], ◌∷◌, ◌++◌, ◌⊎◌, Option, None, Some, length, map, drop, suc, refl, sym, ap, subst, ◌∙◌, arith, inl, inr}
use Rattle.std.specs.Option.{unwrap_or}
use Rattle.std.proofs.lemmas.Bool.{le-leb, lt-leb, le-ltb}
use Rattle.std.proofs.lemmas.Bool.Decides.{leb_tells}
use Rattle.std.proofs.lemmas.List.{append-nil, drop_all}
use Rattle.lsm_key.specs.declared.op.Op.{Op}
use Rattle.lsm_key.specs.declared.seq.TheConstants.Seq as seq
use Rattle.lsm_key.specs.Sets.{IsIn}
use Rattle.lsm_key.proofs.Membership.{IsIn-append_left}
use Rattle.lsm_edit.specs.declared.log_record.LogRecord.{LogRecord}
use Rattle.lsm_edit.specs.declared.log_record.LogRecord.TheVariants.{Write, Freeze}
use Rattle.lsm_edit.specs.LogRecord.{record_bytes}
use Rattle.lsm_edit.specs.Log.{IsGood, Linked, Straddles, end_of, first_freeze, log_freezes, log_frozen, log_ops, read_records, spelled_record}
use Rattle.lsm_edit.specs.LogLaws.{AreRecords, RecordsHold}
use Rattle.lsm_edit.proofs.GrownLogs.{end_after, ends_on, good_count}
use Rattle.lsm_edit.proofs.HeldLogs.{cut_held}
use Rattle.lsm_edit.proofs.LogLaws.{linked_freezes, no_end, not_above, not_bad_good}
use Rattle.lsm_edit.proofs.LogRecordLaws.{record_again}
use Rattle.lsm_edit.proofs.WorkedLogs.{empty_holds}
use Rattle.lsm_coord.specs.Contract.Logs.{record_seq, records_upto}

-- the records of a log are read from its bytes
pub records_are : (records : List LogRecord) (log : List (List ℕ)) → log ≡ map record_bytes records → AreRecords records → read_records log ≡ records
records_are [] log spelled are = ap read_records spelled
records_are (r ∷ records) log spelled are =
    ap read_records spelled
    ∙ ap (λ x. spelled_record x ++ read_records (map record_bytes records)) (record_again (record_bytes r) r (record { sound = are r (inl refl); spelled = refl }))
    ∙ ap (λ (l : List LogRecord). r ∷ l) (records_are records (map record_bytes records) refl (λ q m. are q (inr m)))

-- ---- the records up to a sequence, and the others

abbrev AreUpto : ℕ → List LogRecord → Type 0
AreUpto end records = (r : LogRecord) → IsIn r records → record_seq r ≤ end

abbrev BeginsAfter : ℕ → List LogRecord → Type 0
BeginsAfter end [] = Unit {0}
BeginsAfter end (r ∷ records) = end < record_seq r

record Parts (end : ℕ) (records : List LogRecord) : Type 0 where
  front : List LogRecord
  back : List LogRecord
  parts : records ≡ front ++ back
  left : drop (records_upto end records) records ≡ back
  low : AreUpto end front
  next : BeginsAfter end back

parts_of : (end : ℕ) (records : List LogRecord) → Parts end records
parts_of end [] = record { front = []; back = []; parts = refl; left = refl; low = λ r m. absurd m; next = tt }
parts_of end (r ∷ records) = by_test (parts_of end records) (leb_tells (record_seq r) end)
  where
    by_test : Parts end records → ((leb (record_seq r) end ≡ true) × (record_seq r ≤ end)) ⊎ ((leb (record_seq r) end ≡ false) × (end < record_seq r)) → Parts end (r ∷ records)
    by_test rest (inl is) = record {
      front = r ∷ rest.front;
      back = rest.back;
      parts = ap (λ (l : List LogRecord). r ∷ l) rest.parts;
      left = ap (λ b. drop (cond b (suc (records_upto end records)) 0) (r ∷ records)) is.0 ∙ rest.left;
      low = λ q m. elim m [ inl e ↦ subst (λ (x : LogRecord). record_seq x ≤ end) (sym e) is.1 | inr n ↦ rest.low q n ];
      next = rest.next;
    }
    by_test rest (inr is) = record {
      front = [];
      back = r ∷ records;
      parts = refl;
      left = ap (λ b. drop (cond b (suc (records_upto end records)) 0) (r ∷ records)) is.0;
      low = λ q m. absurd m;
      next = is.1;
    }

-- ---- the records up to the flushed sequence hold nothing

front_ops : (flushed : ℕ) (front : List LogRecord) → AreUpto flushed front → (Straddles flushed front → ⊥) → log_ops flushed front ≡ []
front_ops flushed [] low apart = refl
front_ops flushed (Freeze at ∷ front) low apart = front_ops flushed front (λ r m. low r (inr m)) (λ s. apart (record { first = s.first; ops = s.ops; among = inr s.among; low = s.low; high = s.high }))
front_ops flushed (Write first ops ∷ front) low apart =
    let begins : first ≤ flushed = low (Write first ops) (inl refl) in
    let ends : first + length ops ≤ flushed + 1 = not_above (flushed + 1) (first + length ops) (λ lt. apart (record { first = first; ops = ops; among = inl refl; low = begins; high = lt })) in
    ap (λ (l : List Op). l ++ log_ops flushed front) (drop_all (flushed + 1 - first) ops (omega (arith, begins, ends)))
    ∙ front_ops flushed front (λ r m. low r (inr m)) (λ s. apart (record { first = s.first; ops = s.ops; among = inr s.among; low = s.low; high = s.high }))

front_freezes : (flushed : ℕ) (front : List LogRecord) → AreUpto flushed front → log_freezes flushed front ≡ []
front_freezes flushed [] low = refl
front_freezes flushed (Write first ops ∷ front) low = front_freezes flushed front (λ r m. low r (inr m))
front_freezes flushed (Freeze at ∷ front) low =
    let under : at ≤ flushed = low (Freeze at) (inl refl) in
    ap (λ b. cond b (at ∷ []) [] ++ log_freezes flushed front) (le-ltb flushed at under) ∙ front_freezes flushed front (λ r m. low r (inr m))

front_end : (flushed : ℕ) (front : List LogRecord) → AreUpto flushed front → (Straddles flushed front → ⊥) → (last : ℕ) → last ≤ flushed → end_after last front ≤ flushed
front_end flushed [] low apart last le = le
front_end flushed (Freeze at ∷ front) low apart last le = front_end flushed front (λ r m. low r (inr m)) (λ s. apart (record { first = s.first; ops = s.ops; among = inr s.among; low = s.low; high = s.high })) last le
front_end flushed (Write first ops ∷ front) low apart last le =
    let begins : first ≤ flushed = low (Write first ops) (inl refl) in
    let ends : first + length ops ≤ flushed + 1 = not_above (flushed + 1) (first + length ops) (λ lt. apart (record { first = first; ops = ops; among = inl refl; low = begins; high = lt })) in
    front_end flushed front (λ r m. low r (inr m)) (λ s. apart (record { first = s.first; ops = s.ops; among = inr s.among; low = s.low; high = s.high })) (first + length ops - 1) (omega (arith, ends))

-- ---- what is left

-- an empty log is good
pub empty_good : (flushed : ℕ) → IsGood flushed []
empty_good flushed = not_bad_good flushed [] (λ bad. (empty_holds flushed).good (inr bad))

-- a freeze is never the first that is left: it stands at the end of a write before it
no_freeze_first : (flushed : ℕ) (front : List LogRecord) (at : ℕ) (back : List LogRecord) → IsGood flushed (front ++ Freeze at ∷ back) → AreUpto flushed front → (Straddles flushed front → ⊥) → flushed < at → ⊥
no_freeze_first flushed [] at back good low apart above = good.begun tt
no_freeze_first flushed (Freeze z ∷ front) at back good low apart above = good.begun tt
no_freeze_first flushed (Write first ops ∷ front) at back good low apart above =
    let end : ℕ = unwrap_or (end_of front) (first + length ops - 1) in
    let there : at ≡ end = linked_freezes (Write first ops ∷ front) None at back end good.linked (no_end (end_of (Write first ops ∷ front))) in
    let under : end ≤ flushed = front_end flushed (Write first ops ∷ front) low apart 0 (omega arith) in
    omega (arith, there, under, above)

in_front : (flushed : ℕ) (front back : List LogRecord) → (Straddles flushed (front ++ back) → ⊥) → Straddles flushed front → ⊥
in_front flushed front back apart s = apart (record { first = s.first; ops = s.ops; among = IsIn-append_left (Write s.first s.ops) front back s.among; low = s.low; high = s.high })

end_low : (flushed : ℕ) (front : List LogRecord) → AreUpto flushed front → (Straddles flushed front → ⊥) → (end : ℕ) → end_of front ≡ Some end → end ≤ flushed
end_low flushed front low apart end is = subst (λ (o : Option ℕ). unwrap_or o 0 ≤ flushed) is (front_end flushed front low apart 0 (omega arith))

left_holds : (flushed : ℕ) (front back : List LogRecord) (ops : List Op) (frozen : Option ℕ) → AreUpto flushed front → BeginsAfter flushed back → RecordsHold flushed (front ++ back) ops frozen → RecordsHold flushed back ops frozen
left_holds flushed front [] ops frozen low next held =
    let whole : front ++ [] ≡ front = append-nil front in
    let apart = in_front flushed front [] held.good.apart in
    record {
      good = empty_good flushed;
      ops_are = held.ops_are ∙ ap (log_ops flushed) whole ∙ front_ops flushed front low apart;
      frozen_is = held.frozen_is ∙ ap (log_frozen flushed) whole ∙ ap first_freeze (front_freezes flushed front low);
    }
left_holds flushed front (Freeze at ∷ back) ops frozen low next held = absurd (no_freeze_first flushed front at back held.good low (in_front flushed front (Freeze at ∷ back) held.good.apart) next)
left_holds flushed front (Write first more ∷ back) ops frozen low next held =
    let apart = in_front flushed front (Write first more ∷ back) held.good.apart in
    cut_held flushed front back first more ops frozen held (front_ops flushed front low apart) (front_freezes flushed front low) (end_low flushed front low apart)

-- A CUT UP TO THE FLUSHED SEQUENCE TAKES NOTHING THAT A LOG HOLDS.
pub cut_keeps : (flushed : ℕ) (records : List LogRecord) (ops : List Op) (frozen : Option ℕ) → RecordsHold flushed records ops frozen → RecordsHold flushed (drop (records_upto flushed records) records) ops frozen
cut_keeps flushed records ops frozen held =
    let p = parts_of flushed records in
    subst (λ (l : List LogRecord). RecordsHold flushed l ops frozen) (sym p.left)
    (left_holds flushed p.front p.back ops frozen p.low p.next (subst (λ (l : List LogRecord). RecordsHold flushed l ops frozen) p.parts held))

-- ---- counts

-- a record after the others, above the sequence, is not counted
pub upto_more : (end : ℕ) (records : List LogRecord) (r : LogRecord) → end < record_seq r → records_upto end (records ++ r ∷ []) ≡ records_upto end records
upto_more end [] r above = ap (λ b. cond b (suc 0) 0) (lt-leb (record_seq r) end above)
upto_more end (q ∷ records) r above = ap (λ n. cond (leb (record_seq q) end) (suc n) 0) (upto_more end records r above)

linked_upto : (end last : ℕ) (records : List LogRecord) → Linked (Some last) records → AreRecords records → end_after last records ≤ end → records_upto end records ≡ length records
linked_upto end last [] is sound le = refl
linked_upto end last (Write first ops ∷ records) is sound le =
    let some = (sound (Write first ops) (inl refl)).1 in
    let on : first + length ops - 1 ≤ end_after (first + length ops - 1) records = ends_on (first + length ops - 1) records is.1 in
    ap (λ b. cond b (suc (records_upto end records)) 0) (le-leb first end (omega (arith, some, on, le)))
    ∙ ap suc (linked_upto end (first + length ops - 1) records is.1 (λ r m. sound r (inr m)) le)
linked_upto end last (Freeze at ∷ records) is sound le =
    let on : last ≤ end_after last records = ends_on last records is.1 in
    let here : at ≡ last = is.0 in
    ap (λ b. cond b (suc (records_upto end records)) 0) (le-leb at end (omega (arith, here, on, le)))
    ∙ ap suc (linked_upto end last records is.1 (λ r m. sound r (inr m)) le)

-- no record reaches beyond the last sequence that there is
fits_after : (last : ℕ) (records : List LogRecord) → AreRecords records → last ≤ seq.MAX → end_after last records ≤ seq.MAX
fits_after last [] sound le = le
fits_after last (Freeze at ∷ records) sound le = fits_after last records (λ r m. sound r (inr m)) le
fits_after last (Write first more ∷ records) sound le =
    let high = (sound (Write first more) (inl refl)).2 in
    fits_after (first + length more - 1) records (λ r m. sound r (inr m)) (omega (arith, high))

pub last_fits : (flushed : ℕ) (records : List LogRecord) (ops : List Op) (frozen : Option ℕ) → RecordsHold flushed records ops frozen → AreRecords records → 1 ≤ length ops → flushed + length ops ≤ seq.MAX
last_fits flushed [] ops frozen held sound some =
    let none : length ops ≡ 0 = ap length held.ops_are in
    absurd (omega (arith, none, some))
last_fits flushed (Freeze at ∷ records) ops frozen held sound some = absurd (held.good.begun tt)
last_fits flushed (Write first more ∷ records) ops frozen held sound some =
    let end : ℕ = end_after 0 (Write first more ∷ records) in
    let count = good_count flushed (Write first more ∷ records) held.good sound end refl in
    let low = count.0 in
    let whole = count.1 in
    let long : length ops ≡ length (log_ops flushed (Write first more ∷ records)) = ap length held.ops_are in
    let fits : end ≤ seq.MAX = fits_after 0 (Write first more ∷ records) sound (omega arith) in
    omega (arith, low, whole, long, fits)

-- all records of a log are up to its last sequence
pub all_upto : (flushed : ℕ) (records : List LogRecord) (ops : List Op) (frozen : Option ℕ) → RecordsHold flushed records ops frozen → AreRecords records → records_upto (flushed + length ops) records ≡ length records
all_upto flushed [] ops frozen held sound = refl
all_upto flushed (Freeze at ∷ records) ops frozen held sound = absurd (held.good.begun tt)
all_upto flushed (Write first more ∷ records) ops frozen held sound =
    let last : ℕ = first + length more - 1 in
    let end : ℕ = end_after last records in
    let some = (sound (Write first more) (inl refl)).1 in
    let on : last ≤ end = ends_on last records held.good.linked in
    let count = good_count flushed (Write first more ∷ records) held.good sound end refl in
    let low = count.0 in
    let whole = count.1 in
    let long : length ops ≡ length (log_ops flushed (Write first more ∷ records)) = ap length held.ops_are in
    let same : end ≡ flushed + length ops = omega (arith, low, whole, long) in
    ap (λ b. cond b (suc (records_upto (flushed + length ops) records)) 0) (le-leb first (flushed + length ops) (omega (arith, some, on, same)))
    ∙ ap suc (linked_upto (flushed + length ops) last records held.good.linked (λ r m. sound r (inr m)) (omega (arith, same)))
