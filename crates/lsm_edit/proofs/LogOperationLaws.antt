-- An operation of a log record: what is decoded encodes to the bytes, what encodes to the bytes is decoded, and a proper beginning of them is too short.
use Rattle.std.proofs.Common.{◌≡◌, ℕ, zero, suc, ◌+◌, ◌-◌, ◌^◌, ◌<◌, ◌≤◌, false, cond, eqb, ltb, List, [], ◌++◌, length, take, Result, refl, sym, ap, subst, ◌∙◌, arith}
use Rattle.std.specs.Prelude.{min}
use Rattle.std.specs.Int.{w8, w32, to_be_bytes}
use Rattle.std.proofs.lemmas.Bool.{ltb-false, le-ltb}
use Rattle.std.proofs.lemmas.List.{append-nil}
use Rattle.lsm_key.specs.declared.op.Op.{Op}
use Rattle.lsm_key.specs.declared.op.Op.TheVariants.{Put, Delete}
use Rattle.lsm_key.specs.declared.limits.TheConstants.{ENTRY_OVERHEAD, MAX_KEY_BYTES, MAX_VALUE_BYTES}
use Rattle.lsm_key.specs.Limits.{value_len, weight_of}
use Rattle.lsm_key.specs.Reading.{piece_at}
use Rattle.lsm_key.specs.Spelling.{key, IsKey}
use Rattle.lsm_key.specs.Writes.{key_of}
use Rattle.lsm_key.proofs.Beginnings.{piece_cut}
use Rattle.lsm_key.proofs.FieldLaws.{Takes, piece_again, piece_takes, wide8, wide32}
use Rattle.lsm_key.proofs.ReaderLaws.{Reads, Goes, done, field, field_as, key_reads, unless, whole, within_reads}
use Rattle.lsm_edit.specs.LogRecord.{IsOp, delete_at, op_at, op_bytes, put_at}

-- the fields that are left, in other words where something is known of the value
pub goes_as : {Z F : Type 0} {short : F} {Known : Z → Type 0} {read : List ℕ → Result (Z × List ℕ) F} {spell : Z → List ℕ} {IsZ : Z → Type 0} (words : Z → List ℕ) (Rules : Z → Type 0)
    → ((z : Z) → Known z → words z ≡ spell z) → ((z : Z) → Known z → IsZ z → Rules z) → ((z : Z) → Known z → Rules z → IsZ z)
    → Goes short Known read spell IsZ → Goes short Known read words Rules
goes_as {Z} {F} {short} {Known} {read} {spell} {IsZ} words Rules same there back goes = record {
  takes = λ bytes z fits e. let t = goes.takes bytes z fits e in (subst (λ (text : List ℕ). Takes bytes text z.1) (sym (same z.0 t.1)) t.0, t.1, there z.0 t.1 t.2);
  again = λ z rest known is. ap (λ (text : List ℕ). read (text ++ rest)) (same z known) ∙ goes.again z rest known (back z known is);
  cuts = λ z known is n lt. ap (λ (text : List ℕ). read (take n text)) (same z known) ∙ goes.cuts z known (back z known is) n (subst (λ (text : List ℕ). n < length text) (same z known) lt);
}

piece_reads : {F : Type 0} (short : F) (len : ℕ) → Reads short (piece_at short len) (λ text. text) (λ text. length text ≡ len)
piece_reads short len = record {
  takes = λ bytes z fits e. piece_takes short len bytes z.0 z.1 fits e;
  again = λ text rest is. piece_again short len text rest is;
  cuts = λ text is n lt. ap (λ (m : ℕ). piece_at short m (take n text)) (sym is) ∙ piece_cut short text n lt;
}

-- ---- operations

abbrev op_code : Op → ℕ
op_code (Delete k) = 0
op_code (Put k v) = 1

abbrev put_value : Op → List ℕ
put_value (Delete k) = []
put_value (Put k v) = v

-- what follows the code
abbrev op_tail : Op → List ℕ
op_tail (Delete k) = key k
op_tail (Put k v) = key k ++ (to_be_bytes w32 (length v) ++ v)

delete_is : (op : Op) (k : List ℕ) → op_code op ≡ 0 → key_of op ≡ k → op ≡ Delete k
delete_is (Delete l) k code same = ap (λ (x : List ℕ). Delete x) same
delete_is (Put l v) k code same = absurd (omega (arith, code))

put_is : (op : Op) (k v : List ℕ) → op_code op ≡ 1 → key_of op ≡ k → put_value op ≡ v → op ≡ Put k v
put_is (Delete l) k v code same also = absurd (omega (arith, code))
put_is (Put l w) k v code same also = ap (λ (x : List ℕ). Put x w) same ∙ ap (λ (x : List ℕ). Put k x) also

value_long : (op : Op) → length (put_value op) ≡ value_len op
value_long (Delete k) = refl
value_long (Put k v) = refl

-- an operation of at most a weight
abbrev pub IsOpWithin : ℕ → Op → Type 0
IsOpWithin most op = IsOp op × (weight_of op ≤ most)

module _ {F : Type 0} (short bad : F) (most : ℕ) where
  delete_goes : Goes short (λ op. Unit {0} × (op_code op ≡ 0)) (delete_at short bad most) op_tail (IsOpWithin most)
  unfolding delete_at
  delete_goes = goes_as op_tail (IsOpWithin most) words there back
      (field _ (λ (op : Op). key_of op) (key_reads short bad (min MAX_KEY_BYTES (most - ENTRY_OVERHEAD)) (omega arith)) (λ k _.
      done (λ op. Unit {0}) (Delete k) ((tt, refl), refl) tt (λ op known is. delete_is op k known.0.1 known.1)))
    where
      words : (op : Op) → Unit {0} × (op_code op ≡ 0) → op_tail op ≡ key (key_of op) ++ []
      words (Delete k) known = sym (append-nil (key k))
      words (Put k v) known = absurd (omega (arith, known.1))

      there : (op : Op) → Unit {0} × (op_code op ≡ 0) → IsKey (min MAX_KEY_BYTES (most - ENTRY_OVERHEAD)) (key_of op) × Unit {0} → IsOpWithin most op
      there (Delete k) known r = (let some = r.0.0 in let high = r.0.1 in (record { key = (some, omega (arith, high)); value = omega arith }, omega (arith, some, high)))
      there (Put k v) known r = absurd (omega (arith, known.1))

      back : (op : Op) → Unit {0} × (op_code op ≡ 0) → IsOpWithin most op → IsKey (min MAX_KEY_BYTES (most - ENTRY_OVERHEAD)) (key_of op) × Unit {0}
      back (Delete k) known is = (let own = is.0.key in let high = own.1 in let light = is.1 in ((own.0, omega (arith, high, light)), tt))
      back (Put k v) known is = absurd (omega (arith, known.1))

  abbrev PutFields : Op → Type 0
  PutFields op = IsKey MAX_KEY_BYTES (key_of op) × (((0 ≤ value_len op) × (value_len op ≤ MAX_VALUE_BYTES)) × ((ltb most (weight_of op) ≡ false) × (Unit {0} × Unit {0})))

  put_goes : Goes short (λ op. Unit {0} × (op_code op ≡ 1)) (put_at short bad most) op_tail (IsOpWithin most)
  unfolding put_at
  put_goes = goes_as op_tail (IsOpWithin most) words there back
      (field _ (λ (op : Op). key_of op) (key_reads short bad MAX_KEY_BYTES (omega arith)) (λ k _.
      field _ (λ (op : Op). value_len op) (within_reads short bad w32 (2 ^ 32) wide32 0 MAX_VALUE_BYTES (omega arith)) (λ len _.
      unless _ bad (ltb most (ENTRY_OVERHEAD + length k + len)) (λ (op : Op). ltb most (weight_of op)) (λ op known i. ltb most (ENTRY_OVERHEAD + length (known.0.1 i) + known.1 i)) (
      field_as _ (λ (op : Op). put_value op) (λ op. Unit {0}) (λ op known is. tt) (λ op known is. value_long op ∙ known.1) (piece_reads short len) (λ v is.
      done (λ op. Unit {0}) (Put k v) ((((tt, refl), refl), is), refl) tt (λ op known rest. put_is op k v known.0.0.0.1 known.0.0.1 known.1))))))
    where
      words : (op : Op) → Unit {0} × (op_code op ≡ 1) → op_tail op ≡ key (key_of op) ++ (to_be_bytes w32 (value_len op) ++ (put_value op ++ []))
      words (Delete k) known = absurd (omega (arith, known.1))
      words (Put k v) known = ap (λ (text : List ℕ). key k ++ (to_be_bytes w32 (length v) ++ text)) (sym (append-nil v))

      there : (op : Op) → Unit {0} × (op_code op ≡ 1) → PutFields op → IsOpWithin most op
      there op known r = (record { key = r.0; value = r.1.0.1 }, ltb-false most (weight_of op) r.1.1.0)

      back : (op : Op) → Unit {0} × (op_code op ≡ 1) → IsOpWithin most op → PutFields op
      back op known is = (is.0.key, ((omega arith, is.0.value), (le-ltb most (weight_of op) is.1, (tt, tt))))

  pub op_reads : Reads short (op_at short bad most) op_bytes (IsOpWithin most)
  unfolding op_at
  op_reads = whole op_bytes (IsOpWithin most) words (λ op r. r.1) (λ op is. (code_within op, is)) (field _ (λ (op : Op). op_code op) (within_reads short bad w8 (2 ^ 8) wide8 0 1 (omega arith)) by_code)
    where
      words : (op : Op) → IsOpWithin most op → op_bytes op ≡ to_be_bytes w8 (op_code op) ++ op_tail op
      words (Delete k) is = refl
      words (Put k v) is = refl

      code_within : (op : Op) → (0 ≤ op_code op) × (op_code op ≤ 1)
      code_within (Delete k) = (omega arith, omega arith)
      code_within (Put k v) = (omega arith, omega arith)

      by_code : (code : ℕ) → (0 ≤ code) × (code ≤ 1) → Goes short (λ op. Unit {0} × (op_code op ≡ code)) (λ rest. cond (eqb code 0) (delete_at short bad most rest) (put_at short bad most rest)) op_tail (IsOpWithin most)
      by_code zero is = delete_goes
      by_code (suc zero) is = put_goes
      by_code (suc (suc n)) is = absurd (let high = is.1 in omega (arith, high))
