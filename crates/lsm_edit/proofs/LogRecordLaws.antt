-- A decoded log record encodes to the bytes, what encodes to the bytes is decoded, and a proper beginning of them is too short.
use Rattle.std.proofs.Common.{◌≡◌, ℕ, zero, suc, ◌+◌, ◌-◌, ◌^◌, ◌<◌, ◌≤◌, Bool, true, false, cond, eqb, ltb, List, [], ◌∷◌, ◌++◌, length, take, Option, None, Some, Result, Ok, Err, refl, sym, ap, subst, ◌∙◌, arith}
use Rattle.std.specs.Prelude.{IfOk, All}
use Rattle.std.specs.Int.{w8, w32, w64, to_be_bytes}
use Rattle.std.specs.List.{flat_map}
use Rattle.std.proofs.lemmas.Bool.{eqb-true, eqb-false, ne_eqb, ltb-false, le-ltb, leb-false, lt-leb}
use Rattle.std.proofs.lemmas.List.{append-nil, length-append, nil_from_length}
use Rattle.std.proofs.lemmas.List.Sums.{sum_by-append, sum_by-cons}
use Rattle.lsm_key.specs.declared.batch.KeyError.{KeyError}
use Rattle.lsm_key.specs.declared.op.Op.{Op}
use Rattle.lsm_key.specs.declared.limits.TheConstants.{MAX_BATCH_OPS, MAX_BATCH_WEIGHT, MAX_KEY_BYTES, MAX_VALUE_BYTES}
use Rattle.lsm_key.specs.declared.refused.Refused.{Refused}
use Rattle.lsm_key.specs.declared.seq.TheConstants.Seq as seq
use Rattle.lsm_key.specs.Limits.{batch_fault, batch_fault_after, push_fault, total_weight, value_len, weight_of}
use Rattle.lsm_key.specs.Reading.{Gives}
use Rattle.lsm_key.specs.Writes.{key_of}
use Rattle.lsm_key.proofs.FieldLaws.{IsBytes, bind_ok, guard_held, ok_is, wide8, wide32, wide64}
use Rattle.lsm_key.proofs.PushedOperations.{first_fault-none}
use Rattle.lsm_key.proofs.ReaderLaws.{Reads, Goes, done, field, field_as, unless, whole, within_reads}
use Rattle.lsm_edit.specs.declared.log_record.LogRecord.{LogRecord}
use Rattle.lsm_edit.specs.declared.log_record.LogRecord.TheVariants.{Write, Freeze}
use Rattle.lsm_edit.specs.declared.log_record.Remaining.{Remaining}
use Rattle.lsm_edit.specs.declared.format.FormatFault.{FormatFault}
use Rattle.lsm_edit.specs.declared.format.FormatFault.TheVariants.{Truncated, BadField, TrailingBytes}
use Rattle.lsm_edit.specs.LogRecord.{IsOp, IsRecord, IsSpelledRecord, after_op, freeze_at, next_weight, op_at, op_bytes, ops_at, read_record, log_record_at, record_bytes, write_at}
use Rattle.lsm_edit.proofs.ItemsInTurn.{AreInTurn, items_again, items_cuts, items_takes}
use Rattle.lsm_edit.proofs.LogOperationLaws.{IsOpWithin, goes_as, op_reads}

-- ---- the operations of a batch

-- each weighs no more than is left for it
abbrev pub AreOpsWithin : Remaining → List Op → Type 0
AreOpsWithin left ops = AreInTurn (λ left op. IsOpWithin (next_weight left) op) after_op left ops

-- what is left of a batch that begins
abbrev pub all_of : ℕ → Remaining
all_of count = record { ops = count; weight = MAX_BATCH_WEIGHT }

module _ {F : Type 0} (short bad : F) where
  abbrev next_op : Remaining → List ℕ → Result (Op × List ℕ) F
  next_op left = op_at short bad (next_weight left)

  pub ops_reads : (count : ℕ) (left : Remaining) → Reads short (ops_at short bad count left) (λ ops. flat_map op_bytes ops) (λ ops. AreOpsWithin left ops × (length ops ≡ count))
  ops_reads count left = record {
    takes = λ bytes z fits e. let t = items_takes (λ (s : Remaining). Unit {0}) (λ s op. IsOpWithin (next_weight s) op) next_op after_op op_bytes (λ s good. op_reads short bad (next_weight s)) (λ s op good is. tt) count left bytes z tt fits e in (t.0, (t.1, t.2));
    again = λ ops rest is.
        ap (λ (n : ℕ). ops_at short bad n left (flat_map op_bytes ops ++ rest)) (sym is.1)
        ∙ items_again (λ (s : Remaining). Unit {0}) (λ s op. IsOpWithin (next_weight s) op) next_op after_op op_bytes (λ s good. op_reads short bad (next_weight s)) (λ s op good is. tt) ops left rest tt is.0;
    cuts = λ ops is n lt.
        ap (λ (m : ℕ). ops_at short bad m left (take n (flat_map op_bytes ops))) (sym is.1)
        ∙ items_cuts (λ (s : Remaining). Unit {0}) (λ s op. IsOpWithin (next_weight s) op) next_op after_op op_bytes (λ s good. op_reads short bad (next_weight s)) (λ s op good is. tt) ops left tt is.0 n lt;
  }

-- one operation after another
abbrev AreOps : List Op → Type 0
AreOps [] = Unit {0}
AreOps (op ∷ ops) = IsOp op × AreOps ops

-- the rest of a batch, of which one operation was read
one_less : (op : Op) (ops : List Op) (weight : ℕ) → after_op (record { ops = length (op ∷ ops); weight = weight }) op ≡ record { ops = length ops; weight = weight - weight_of op }
one_less op ops weight = ap (λ (n : ℕ). record { ops = n; weight = weight - weight_of op }) (omega arith)

ops_of_turn : (left : Remaining) (ops : List Op) → AreOpsWithin left ops → AreOps ops
ops_of_turn left [] is = tt
ops_of_turn left (op ∷ ops) is = (is.0.0, ops_of_turn (after_op left op) ops is.1)

weight_of_turn : (ops : List Op) (weight : ℕ) → 1 ≤ length ops → AreOpsWithin (record { ops = length ops; weight = weight }) ops → total_weight ops ≤ weight
weight_of_turn [] weight some is = absurd (omega (arith, some))
weight_of_turn (op ∷ []) weight some is = (let own : weight_of op ≤ weight = is.0.1 in omega (arith, own, sum_by-cons weight_of op []))
weight_of_turn (op ∷ next ∷ ops) weight some is =
    let rest : total_weight (next ∷ ops) ≤ weight - weight_of op = weight_of_turn (next ∷ ops) (weight - weight_of op) (omega arith) (subst (λ (left : Remaining). AreOpsWithin left (next ∷ ops)) (one_less op (next ∷ ops) weight) is.1) in
    omega (arith, rest, sum_by-cons weight_of op (next ∷ ops), sum_by-cons weight_of next ops)

either : (b : Bool) (own most other : ℕ) → own ≤ most → own ≤ other → own ≤ cond b most other
either true own most other h g = h
either false own most other h g = g

turn_of_ops : (ops : List Op) (weight : ℕ) → AreOps ops → total_weight ops ≤ weight → weight ≤ MAX_BATCH_WEIGHT → AreOpsWithin (record { ops = length ops; weight = weight }) ops
turn_of_ops [] weight are light low = tt
turn_of_ops (op ∷ ops) weight are light low =
    let sum = sum_by-cons weight_of op ops in
    let within : weight_of op ≤ weight = omega (arith, light, sum) in (
      (are.0, either (eqb (length (op ∷ ops)) 1) (weight_of op) weight MAX_BATCH_WEIGHT within (omega (arith, within, low))),
      subst (λ (left : Remaining). AreOpsWithin left ops) (sym (one_less op ops weight)) (turn_of_ops ops (weight - weight_of op) are.1 (omega (arith, light, sum)) (omega (arith, low))),
    )

-- ---- what a batch refuses

refuses_not : {X : Type 0} (b : Bool) (x : X) (r : Option X) → cond b (Some x) r ≡ None → (b ≡ false) × (r ≡ None)
refuses_not true x r h = absurd cc
refuses_not false x r h = (refl, h)

-- an operation that a batch takes
abbrev IsTaken : List Op → Op → Type 0
IsTaken ops op = IsOp op × (length ops < MAX_BATCH_OPS) × (total_weight ops + weight_of op ≤ MAX_BATCH_WEIGHT)

taken : (ops : List Op) (op : Op) → push_fault ops op ≡ None → IsTaken ops op
taken ops op h =
    let a = refuses_not _ _ _ h in
    let b = refuses_not _ _ _ a.1 in
    let c = refuses_not _ _ _ b.1 in
    let d = refuses_not _ _ _ c.1 in
    let e = refuses_not _ _ _ d.1 in
    let some : length (key_of op) ≡ 0 → ⊥ = eqb-false (length (key_of op)) 0 a.0 in
    (record { key = (omega (arith, some), ltb-false MAX_KEY_BYTES (length (key_of op)) b.0); value = ltb-false MAX_VALUE_BYTES (value_len op) c.0 }, leb-false MAX_BATCH_OPS (length ops) d.0, ltb-false MAX_BATCH_WEIGHT (total_weight ops + weight_of op) e.0)

takes_op : (ops : List Op) (op : Op) → IsTaken ops op → push_fault ops op ≡ None
takes_op ops op is =
    let some = is.0.key.0 in
    rw (ne_eqb (length (key_of op)) 0 (λ z. omega (arith, z, some)), le-ltb MAX_KEY_BYTES (length (key_of op)) is.0.key.1, le-ltb MAX_VALUE_BYTES (value_len op) is.0.value, lt-leb MAX_BATCH_OPS (length ops) is.1, le-ltb MAX_BATCH_WEIGHT (total_weight ops + weight_of op) is.2) refl

one_more : (front : List Op) (op : Op) → (length (front ++ op ∷ []) ≡ length front + 1) × (total_weight (front ++ op ∷ []) ≡ total_weight front + weight_of op)
one_more front op = (length-append front (op ∷ []), (let sum = sum_by-append weight_of front (op ∷ []) in omega (arith, sum)))

-- operations that are taken in turn
abbrev AreTaken : List Op → List Op → Type 0
AreTaken front ops = AreOps ops × (length front + length ops ≤ MAX_BATCH_OPS) × (total_weight front + total_weight ops ≤ MAX_BATCH_WEIGHT)

batch_taken : (front ops : List Op) → length front ≤ MAX_BATCH_OPS → total_weight front ≤ MAX_BATCH_WEIGHT → batch_fault_after front ops ≡ None → AreTaken front ops
batch_taken front [] few light h = (tt, omega (arith, few), omega (arith, light))
batch_taken front (op ∷ ops) few light h =
    let parts = first_fault-none (push_fault front op) (batch_fault_after (front ++ op ∷ []) ops) h in
    let own = taken front op parts.0 in
    let more = one_more front op in
    let below = own.1 in
    let within = own.2 in
    let later = batch_taken (front ++ op ∷ []) ops (omega (arith, below, more.0)) (omega (arith, within, more.1)) parts.1 in
    let count = later.1 in
    let weight = later.2 in
    ((own.0, later.0), omega (arith, count, more.0), omega (arith, weight, more.1, sum_by-cons weight_of op ops))

taken_batch : (front ops : List Op) → AreTaken front ops → batch_fault_after front ops ≡ None
taken_batch front [] are = refl
taken_batch front (op ∷ ops) are =
    let more = one_more front op in
    let few = are.1 in
    let light = are.2 in
    let sum = sum_by-cons weight_of op ops in
    let own = takes_op front op (are.0.0, omega (arith, few), omega (arith, light, sum)) in
    rw (own, taken_batch (front ++ op ∷ []) ops (are.0.1, omega (arith, few, more.0), omega (arith, light, more.1, sum))) refl

all_by_one : (ops : List Op) → AreOps ops → All IsOp ops
all_by_one [] are k d lt = absurd (omega (arith, lt))
all_by_one (op ∷ ops) are zero d lt = are.0
all_by_one (op ∷ ops) are (suc k) d lt = all_by_one ops are.1 k d (omega (arith, lt))

-- the operations of a batch are within their limits
pub all_ops : (ops : List Op) → batch_fault ops ≡ None → All IsOp ops
all_ops ops h = all_by_one ops (batch_taken [] ops (omega arith) (omega arith) h).0

-- what was read in turn is a batch
pub read_batch : (ops : List Op) → 1 ≤ length ops → length ops ≤ MAX_BATCH_OPS → AreOpsWithin (all_of (length ops)) ops → batch_fault ops ≡ None
read_batch ops some few is = (let light = weight_of_turn ops MAX_BATCH_WEIGHT some is in taken_batch [] ops (ops_of_turn (all_of (length ops)) ops is, omega (arith, few), omega (arith, light)))

-- so a batch takes what was read
pub never_refused : {F : Type 0} (short bad : F) (count : ℕ) (bytes : List ℕ) (ops : List Op) (rest : List ℕ) (why : KeyError) → (1 ≤ count) × (count ≤ MAX_BATCH_OPS) → IsBytes bytes
    → ops_at short bad count (all_of count) bytes ≡ Ok (ops, rest) → batch_fault ops ≡ Some why → ⊥
never_refused short bad count bytes ops rest why within fits read refused =
    let t = (ops_reads short bad count (all_of count)).takes bytes (ops, rest) fits read in
    let long = t.1.1 in
    let none : batch_fault ops ≡ None = read_batch ops (let some = within.0 in omega (arith, some, long)) (let few = within.1 in omega (arith, few, long)) (subst (λ (n : ℕ). AreOpsWithin (all_of n) ops) (sym long) t.1.0) in
    let both : None ≡ Some why = sym none ∙ refused in
    cc

-- a batch is read in turn
batch_read : (ops : List Op) → batch_fault ops ≡ None → (length ops ≤ MAX_BATCH_OPS) × AreOpsWithin (all_of (length ops)) ops
batch_read ops h =
    let are = batch_taken [] ops (omega arith) (omega arith) h in
    let few = are.1 in
    let light = are.2 in
    (omega (arith, few), turn_of_ops ops MAX_BATCH_WEIGHT are.0 (omega (arith, light)) (omega arith))

-- ---- records

abbrev record_code : LogRecord → ℕ
record_code (Write first ops) = 1
record_code (Freeze at) = 2

abbrev pub seq_of : LogRecord → ℕ
seq_of (Write first ops) = first
seq_of (Freeze at) = at

abbrev ops_of : LogRecord → List Op
ops_of (Write first ops) = ops
ops_of (Freeze at) = []

-- what follows the code
abbrev record_tail : LogRecord → List ℕ
record_tail (Write first ops) = to_be_bytes w64 first ++ (to_be_bytes w32 (length ops) ++ flat_map op_bytes ops)
record_tail (Freeze at) = to_be_bytes w64 at

write_is : (r : LogRecord) (first : ℕ) (ops : List Op) → record_code r ≡ 1 → seq_of r ≡ first → ops_of r ≡ ops → r ≡ Write first ops
write_is (Write f os) first ops code same also = ap (λ (n : ℕ). Write n os) same ∙ ap (λ (xs : List Op). Write first xs) also
write_is (Freeze at) first ops code same also = absurd (omega (arith, code))

freeze_is : (r : LogRecord) (at : ℕ) → record_code r ≡ 2 → seq_of r ≡ at → r ≡ Freeze at
freeze_is (Write f os) at code same = absurd (omega (arith, code))
freeze_is (Freeze a) at code same = ap (λ (n : ℕ). Freeze n) same

module _ {F : Type 0} (short bad : F) where
  abbrev WriteFields : LogRecord → Type 0
  WriteFields r =
      ((1 ≤ seq_of r) × (seq_of r ≤ 2 ^ 64 - 1)) × (((1 ≤ length (ops_of r)) × (length (ops_of r) ≤ MAX_BATCH_OPS))
      × ((ltb seq.MAX (seq_of r + length (ops_of r) - 1) ≡ false) × (AreOpsWithin (all_of (length (ops_of r))) (ops_of r) × Unit {0})))

  write_goes : Goes short (λ r. Unit {0} × (record_code r ≡ 1)) (write_at short bad) record_tail IsRecord
  unfolding write_at
  write_goes = goes_as record_tail IsRecord words there back
      (field _ (λ (r : LogRecord). seq_of r) (within_reads short bad w64 (2 ^ 64) wide64 1 (2 ^ 64 - 1) (omega arith)) (λ first _.
      field _ (λ (r : LogRecord). length (ops_of r)) (within_reads short bad w32 (2 ^ 32) wide32 1 MAX_BATCH_OPS (omega arith)) (λ count _.
      unless _ bad (ltb seq.MAX (first + count - 1)) (λ (r : LogRecord). ltb seq.MAX (seq_of r + length (ops_of r) - 1)) (λ r known i. ltb seq.MAX (known.0.1 i + known.1 i - 1)) (
      field_as _ (λ (r : LogRecord). ops_of r) (λ r. AreOpsWithin (all_of (length (ops_of r))) (ops_of r))
      (λ r known is. subst (λ (n : ℕ). AreOpsWithin (all_of n) (ops_of r)) (sym known.1) is.0) (λ r known is. (subst (λ (n : ℕ). AreOpsWithin (all_of n) (ops_of r)) known.1 is, known.1))
      (ops_reads short bad count (all_of count)) (λ ops is.
      done (λ r. Unit {0}) (Write first ops) ((((tt, refl), refl), is.1), refl) tt (λ r known rest. write_is r first ops known.0.0.0.1 known.0.0.1 known.1))))))
    where
      words : (r : LogRecord) → Unit {0} × (record_code r ≡ 1) → record_tail r ≡ to_be_bytes w64 (seq_of r) ++ (to_be_bytes w32 (length (ops_of r)) ++ (flat_map op_bytes (ops_of r) ++ []))
      words (Write first ops) known = ap (λ (text : List ℕ). to_be_bytes w64 first ++ (to_be_bytes w32 (length ops) ++ text)) (sym (append-nil (flat_map op_bytes ops)))
      words (Freeze at) known = absurd (omega (arith, known.1))

      there : (r : LogRecord) → Unit {0} × (record_code r ≡ 1) → WriteFields r → IsRecord r
      there (Write first ops) known r =
          let some = r.1.0.0 in
          let last : first + length ops - 1 ≤ seq.MAX = ltb-false seq.MAX (first + length ops - 1) r.1.1.0 in
          (r.0.0, some, omega (arith, last, some), read_batch ops some r.1.0.1 r.1.1.1.0)
      there (Freeze at) known r = absurd (omega (arith, known.1))

      back : (r : LogRecord) → Unit {0} × (record_code r ≡ 1) → IsRecord r → WriteFields r
      back (Write first ops) known is =
          let last = is.2 in
          let some = is.1 in
          let read = batch_read ops is.3 in
          ((is.0, omega (arith, last, some)), ((some, read.0), (le-ltb seq.MAX (first + length ops - 1) (omega (arith, last)), (read.1, tt))))
      back (Freeze at) known is = absurd (omega (arith, known.1))

  freeze_goes : Goes short (λ r. Unit {0} × (record_code r ≡ 2)) (freeze_at short bad) record_tail IsRecord
  unfolding freeze_at
  freeze_goes = goes_as record_tail IsRecord words there back
      (field _ (λ (r : LogRecord). seq_of r) (within_reads short bad w64 (2 ^ 64) wide64 1 seq.MAX (omega arith)) (λ at _.
      done (λ r. Unit {0}) (Freeze at) ((tt, refl), refl) tt (λ r known is. freeze_is r at known.0.1 known.1)))
    where
      words : (r : LogRecord) → Unit {0} × (record_code r ≡ 2) → record_tail r ≡ to_be_bytes w64 (seq_of r) ++ []
      words (Write first ops) known = absurd (omega (arith, known.1))
      words (Freeze at) known = sym (append-nil (to_be_bytes w64 at))

      there : (r : LogRecord) → Unit {0} × (record_code r ≡ 2) → ((1 ≤ seq_of r) × (seq_of r ≤ seq.MAX)) × Unit {0} → IsRecord r
      there (Write first ops) known r = absurd (omega (arith, known.1))
      there (Freeze at) known r = r.0

      back : (r : LogRecord) → Unit {0} × (record_code r ≡ 2) → IsRecord r → ((1 ≤ seq_of r) × (seq_of r ≤ seq.MAX)) × Unit {0}
      back (Write first ops) known is = absurd (omega (arith, known.1))
      back (Freeze at) known is = (is, tt)

  record_reads : Reads short (log_record_at short bad) record_bytes IsRecord
  unfolding log_record_at
  record_reads = whole record_bytes IsRecord words (λ r is. is.1) (λ r is. (code_within r, is)) (field _ (λ (r : LogRecord). record_code r) (within_reads short bad w8 (2 ^ 8) wide8 1 2 (omega arith)) by_code)
    where
      words : (r : LogRecord) → IsRecord r → record_bytes r ≡ to_be_bytes w8 (record_code r) ++ record_tail r
      words (Write first ops) is = refl
      words (Freeze at) is = refl

      code_within : (r : LogRecord) → (1 ≤ record_code r) × (record_code r ≤ 2)
      code_within (Write first ops) = (omega arith, omega arith)
      code_within (Freeze at) = (omega arith, omega arith)

      by_code : (code : ℕ) → (1 ≤ code) × (code ≤ 2) → Goes short (λ r. Unit {0} × (record_code r ≡ code)) (λ rest. cond (eqb code 1) (write_at short bad rest) (freeze_at short bad rest)) record_tail IsRecord
      by_code zero is = absurd (let low = is.0 in omega (arith, low))
      by_code (suc zero) is = write_goes
      by_code (suc (suc zero)) is = freeze_goes
      by_code (suc (suc (suc n))) is = absurd (let high = is.1 in omega (arith, high))

-- ---- all of the bytes

reads : Reads Truncated (log_record_at Truncated BadField) record_bytes IsRecord
reads = record_reads Truncated BadField

record_takes : (bytes : List ℕ) (r : LogRecord) → IsBytes bytes → read_record bytes ≡ Ok r → IsSpelledRecord bytes r
unfolding read_record
record_takes bytes r fits h =
    let a = bind_ok (log_record_at Truncated BadField bytes) (λ x. cond (eqb (length x.1) 0) (Ok x.0) (Err TrailingBytes)) r h in
    let g = guard_held (eqb (length a.0.1) 0) TrailingBytes (Ok a.0.0) r a.2 in
    let t = reads.takes bytes a.0 fits a.1 in
    let none : a.0.1 ≡ [] = nil_from_length a.0.1 (eqb-true _ _ g.0) in
    let same = ok_is {F = FormatFault} a.0.0 r g.1 in
    subst (λ (x : LogRecord). IsSpelledRecord bytes x) same (record { sound = t.1; spelled = t.0.parts ∙ ap (λ (rest : List ℕ). record_bytes a.0.0 ++ rest) none ∙ append-nil (record_bytes a.0.0) })

pub record_again : (bytes : List ℕ) (r : LogRecord) → IsSpelledRecord bytes r → read_record bytes ≡ Ok r
unfolding read_record
record_again bytes r is =
    let a : log_record_at Truncated BadField bytes ≡ Ok (r, []) = ap (log_record_at Truncated BadField) (is.spelled ∙ sym (append-nil (record_bytes r))) ∙ reads.again r [] is.sound in
    rw a refl

pub record_cut : (bytes : List ℕ) (r : LogRecord) (n : ℕ) → IsSpelledRecord bytes r → n < length bytes → read_record (take n bytes) ≡ Err Truncated
unfolding read_record
record_cut bytes r n is lt =
    let a : log_record_at Truncated BadField (take n bytes) ≡ Err Truncated =
    ap (λ (text : List ℕ). log_record_at Truncated BadField (take n text)) is.spelled ∙ reads.cuts r is.sound n (subst (λ (text : List ℕ). n < length text) is.spelled lt) in
    rw a refl

pub record_found : (bytes : List ℕ) (r : Result LogRecord (Refused FormatFault)) → IsBytes bytes → Gives (λ b. b) r (read_record bytes) → IfOk r (λ x. IsSpelledRecord bytes x)
record_found bytes (Ok x) fits given = record_takes bytes x fits given
record_found bytes (Err f) fits given = tt

-- other bytes are no record's, or another's
pub other_record : (bytes other : List ℕ) (r : LogRecord) → IsSpelledRecord bytes r → IsBytes other → (other ≡ bytes → ⊥) → IfOk (read_record other) (λ changed. IsSpelledRecord other changed × (changed ≡ r → ⊥))
other_record bytes other r is fits differ = by (read_record other) refl
  where
    by : (x : Result LogRecord FormatFault) → read_record other ≡ x → IfOk x (λ changed. IsSpelledRecord other changed × (changed ≡ r → ⊥))
    by (Ok changed) read = (let own = record_takes other changed fits read in (own, λ same. differ (own.spelled ∙ ap record_bytes same ∙ sym is.spelled)))
    by (Err fault) read = tt
