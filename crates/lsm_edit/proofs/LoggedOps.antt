-- Where the operations of a record lie in it, and where an operation's key and value do.
use Rattle.std.proofs.Common.{◌≡◌, ℕ, ◌+◌, ◌-◌, ◌≤◌, List, [], ◌++◌, length, take, drop, refl, sym, ap, ◌∙◌, arith}
use Rattle.std.specs.Int.{w8, w16, w32, w64, to_be_bytes}
use Rattle.std.specs.List.{flat_map}
use Rattle.std.proofs.lemmas.List.{append_assoc, append-nil, drop-drop, drop-take, drop_at, length-append, length-drop, length-take, take-take, take_at}
use Rattle.lsm_key.specs.declared.op.Op.{Op}
use Rattle.lsm_key.specs.declared.op.Op.TheVariants.{Put, Delete}
use Rattle.lsm_key.specs.Spelling.{key}
use Rattle.lsm_key.specs.Writes.{key_of}
use Rattle.lsm_key.proofs.FieldLaws.{wide8, wide16, wide32, wide64}
use Rattle.lsm_edit.specs.declared.log_record.LogRecord.TheVariants.{Write}
use Rattle.lsm_edit.specs.declared.log_record.TheConstants.{WRITE_HEAD_BYTES}
use Rattle.lsm_edit.specs.LogRecord.{op_bytes, record_bytes}

-- the operations come after the code, the sequence and the count
pub after_head : (first : ℕ) (ops : List Op) → drop WRITE_HEAD_BYTES (record_bytes (Write first ops)) ≡ flat_map op_bytes ops
after_head first ops =
    let code = to_be_bytes w8 1 in
    let seq = to_be_bytes w64 first in
    let count = to_be_bytes w32 (length ops) in
    let head = code ++ (seq ++ count) in
    let size : length head ≡ 13 = omega (arith, length-append code (seq ++ count), length-append seq count, wide8.len 1, wide64.len first, wide32.len (length ops)) in
    ap (drop 13) (ap (λ (xs : List ℕ). code ++ xs) (sym (append_assoc seq count (flat_map op_bytes ops))) ∙ sym (append_assoc code (seq ++ count) (flat_map op_bytes ops)))
    ∙ drop_at head (flat_map op_bytes ops) 13 size

pub put_size : (k v : List ℕ) → length (op_bytes (Put k v)) ≡ 7 + length k + length v
put_size k v =
    let code = to_be_bytes w8 1 in
    let long = to_be_bytes w16 (length k) in
    let wide = to_be_bytes w32 (length v) in
    omega (arith, length-append code (key k ++ (wide ++ v)), length-append (key k) (wide ++ v), length-append long k, length-append wide v, wide8.len 1, wide16.len (length k), wide32.len (length v))

pub delete_size : (k : List ℕ) → length (op_bytes (Delete k)) ≡ 3 + length k
delete_size k =
    let code = to_be_bytes w8 0 in
    let long = to_be_bytes w16 (length k) in
    omega (arith, length-append code (key k), length-append long k, wide8.len 0, wide16.len (length k))

-- what is found at a place ends within the whole
pub ends_within : (whole : List ℕ) (at : ℕ) (bytes : List ℕ) → 1 ≤ length bytes → take (length bytes) (drop at whole) ≡ bytes → at + length bytes ≤ length whole
ends_within whole at bytes some is =
    let taken = ap length is in
    omega (arith, some, taken, length-take (length bytes) (drop at whole), length-drop at whole)

-- a part of what is found at a place
part : (whole : List ℕ) (at : ℕ) (front mid back : List ℕ) → take (length (front ++ (mid ++ back))) (drop at whole) ≡ front ++ (mid ++ back) → take (length mid) (drop (at + length front) whole) ≡ mid
part whole at front mid back is =
    let here = drop at whole in
    let f = length front in
    let m = length mid in
    let more : m ≤ length (mid ++ back) = omega (arith, length-append mid back) in
    let size : f + length (mid ++ back) ≡ length (front ++ (mid ++ back)) = sym (length-append front (mid ++ back)) in
    ap (take m) (sym (drop-drop f at whole))
    ∙ sym (take-take m (length (mid ++ back)) (drop f here) more)
    ∙ ap (take m) (sym (drop-take f (length (mid ++ back)) here))
    ∙ ap (λ (n : ℕ). take m (drop f (take n here))) size
    ∙ ap (λ (xs : List ℕ). take m (drop f xs)) is
    ∙ ap (take m) (drop_at front (mid ++ back) f refl)
    ∙ take_at mid back m refl

part_between : (whole : List ℕ) (at : ℕ) (bytes front mid back : List ℕ) → bytes ≡ front ++ (mid ++ back) → take (length bytes) (drop at whole) ≡ bytes → (from to : ℕ) → from ≡ at + length front → to ≡ from + length mid
    → take (to - from) (drop from whole) ≡ mid
part_between whole at bytes front mid back parts is from to begin end =
    let long : to - from ≡ length mid = omega (arith, end) in
    let found : take (length (front ++ (mid ++ back))) (drop at whole) ≡ front ++ (mid ++ back) = ap (λ (n : ℕ). take n (drop at whole)) (sym (ap length parts)) ∙ is ∙ parts in
    (λ i. take (long i) (drop (begin i) whole)) ∙ part whole at front mid back found

pub key_part : (whole : List ℕ) (at : ℕ) (op : Op) → take (length (op_bytes op)) (drop at whole) ≡ op_bytes op → (from to : ℕ) → from ≡ at + 3 → to ≡ from + length (key_of op) → take (to - from) (drop from whole) ≡ key_of op
key_part whole at (Put k v) is from to begin end =
    let code = to_be_bytes w8 1 in
    let long = to_be_bytes w16 (length k) in
    let back = to_be_bytes w32 (length v) ++ v in
    let size : length (code ++ long) ≡ 3 = omega (arith, length-append code long, wide8.len 1, wide16.len (length k)) in
    part_between whole at (op_bytes (Put k v)) (code ++ long) k back (ap (λ (xs : List ℕ). code ++ xs) (append_assoc long k back) ∙ sym (append_assoc code long (k ++ back))) is from to (omega (arith, begin, size)) end
key_part whole at (Delete k) is from to begin end =
    let code = to_be_bytes w8 0 in
    let long = to_be_bytes w16 (length k) in
    let size : length (code ++ long) ≡ 3 = omega (arith, length-append code long, wide8.len 0, wide16.len (length k)) in
    part_between whole at (op_bytes (Delete k)) (code ++ long) k [] (sym (append_assoc code long k) ∙ ap (λ (xs : List ℕ). (code ++ long) ++ xs) (sym (append-nil k))) is from to (omega (arith, begin, size)) end

pub value_part : (whole : List ℕ) (at : ℕ) (k v : List ℕ) → take (length (op_bytes (Put k v))) (drop at whole) ≡ op_bytes (Put k v) → (from to : ℕ) → from ≡ at + 7 + length k → to ≡ from + length v → take (to - from) (drop from whole) ≡ v
value_part whole at k v is from to begin end =
    let code = to_be_bytes w8 1 in
    let long = to_be_bytes w16 (length k) in
    let wide = to_be_bytes w32 (length v) in
    let front = code ++ (key k ++ wide) in
    let size : length front ≡ 7 + length k = omega (arith, length-append code (key k ++ wide), length-append (key k) wide, length-append long k, wide8.len 1, wide16.len (length k), wide32.len (length v)) in
    let parts : op_bytes (Put k v) ≡ front ++ (v ++ []) = (
    ap (λ (xs : List ℕ). code ++ xs) (sym (append_assoc (key k) wide v))
    ∙ sym (append_assoc code (key k ++ wide) v)
    ∙ ap (λ (xs : List ℕ). front ++ xs) (sym (append-nil v))) in
    part_between whole at (op_bytes (Put k v)) front v [] parts is from to (omega (arith, begin, size)) end
