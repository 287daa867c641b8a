-- Records of the log: what they may say, and how they are encoded (LevelDB, write_batch.cc: a sequence, a count and the operations; the layout is the store's own).
use Rattle.std.specs.Prelude.{◌≡◌, ℕ, ◌+◌, ◌-◌, ◌≤◌, ◌^◌, List, [], ◌++◌, length, min, Result, Ok, Err, None, nat_lt, ◌==◌, if◌then◌else◌}
use Rattle.std.specs.Int.{w8, w32, w64, to_be_bytes}
use Rattle.std.specs.List.{flat_map}
use Rattle.lsm_key.specs.declared.op.Op.{Op}
use Rattle.lsm_key.specs.declared.op.Op.TheVariants.{Put, Delete}
use Rattle.lsm_key.specs.declared.limits.TheConstants.{ENTRY_OVERHEAD, MAX_BATCH_OPS, MAX_BATCH_WEIGHT, MAX_KEY_BYTES, MAX_VALUE_BYTES}
use Rattle.lsm_key.specs.declared.seq.TheConstants.Seq as seq
use Rattle.lsm_key.specs.Limits.{batch_fault, value_len, weight_of}
use Rattle.lsm_key.specs.Reading.{◌>>=◌, ranged_number_at, piece_at, key_at}
use Rattle.lsm_key.specs.Spelling.{key, IsKey}
use Rattle.lsm_key.specs.Writes.{key_of}
use Rattle.lsm_edit.specs.declared.log_record.LogRecord.{LogRecord}
use Rattle.lsm_edit.specs.declared.log_record.LogRecord.TheVariants.{Write, Freeze}
use Rattle.lsm_edit.specs.declared.log_record.Remaining.{Remaining}
use Rattle.lsm_edit.specs.declared.format.FormatFault.{FormatFault}
use Rattle.lsm_edit.specs.declared.format.FormatFault.TheVariants.{Truncated, BadField, TrailingBytes}
use Rattle.lsm_edit.specs.Edit.{items_at}

-- an operation within the limits of its key and value
pub record IsOp (op : Op) : Type 0 where
  pub key : IsKey MAX_KEY_BYTES (key_of op)
  pub value : value_len op ≤ MAX_VALUE_BYTES

-- a batch of an operation or more, with the sequence of the first; or a freeze
abbrev pub IsRecord : LogRecord → Type 0
IsRecord (Write first ops) = (1 ≤ first) × (1 ≤ length ops) × (first + length ops ≤ seq.MAX + 1) × (batch_fault ops ≡ None)
IsRecord (Freeze at) = (1 ≤ at) × (at ≤ seq.MAX)

-- the bytes of an operation: the code of its kind, its key and, of a put, its value
abbrev pub op_bytes : Op → List ℕ
op_bytes (Put k value) = to_be_bytes w8 1 ++ (key k ++ (to_be_bytes w32 (length value) ++ value))
op_bytes (Delete k) = to_be_bytes w8 0 ++ key k

-- the value of an operation, empty for a deletion
abbrev pub op_value : Op → List ℕ
op_value (Put k value) = value
op_value (Delete k) = []

-- the bytes of a record
abbrev pub record_bytes : LogRecord → List ℕ
record_bytes (Write first ops) = to_be_bytes w8 1 ++ (to_be_bytes w64 first ++ (to_be_bytes w32 (length ops) ++ flat_map op_bytes ops))
record_bytes (Freeze at) = to_be_bytes w8 2 ++ to_be_bytes w64 at

-- the bytes are those of this record
pub record IsSpelledRecord (bytes : List ℕ) (r : LogRecord) : Type 0 where
  pub sound : IsRecord r
  pub spelled : bytes ≡ record_bytes r

-- the most that the next operation may weigh: a batch is weighed at its last operation
abbrev pub next_weight : Remaining → ℕ
next_weight left = if left.ops == 1 then left.weight else MAX_BATCH_WEIGHT

-- what is left for the operations after one
abbrev pub after_op : Remaining → Op → Remaining
after_op left op = record { ops = left.ops - 1; weight = left.weight - weight_of op }

-- a deletion of at most this weight, which its key's length decides
unfoldable pub delete_at : {F : Type 0} → F → F → ℕ → List ℕ → Result (Op × List ℕ) F
delete_at short bad most bytes = do
  k ← key_at (min MAX_KEY_BYTES (most - ENTRY_OVERHEAD)) short bad bytes
  Ok (Delete k.0, k.1)

-- a put of at most this weight, which its value's length decides
unfoldable pub put_at : {F : Type 0} → F → F → ℕ → List ℕ → Result (Op × List ℕ) F
put_at short bad most bytes = do
  k ← key_at MAX_KEY_BYTES short bad bytes
  n ← ranged_number_at short bad w32 0 MAX_VALUE_BYTES k.1
  if nat_lt most (ENTRY_OVERHEAD + length k.0 + n.0) then Err bad else
      (do
        value ← piece_at short n.0 n.1
        Ok (Put k.0 value.0, value.1))

-- an operation of at most this weight
unfoldable pub op_at : {F : Type 0} → F → F → ℕ → List ℕ → Result (Op × List ℕ) F
op_at short bad most bytes = do
  code ← ranged_number_at short bad w8 0 1 bytes
  if code.0 == 0 then delete_at short bad most code.1 else put_at short bad most code.1

-- count operations, with this left for them
abbrev pub ops_at : {F : Type 0} → F → F → ℕ → Remaining → List ℕ → Result (List Op × List ℕ) F
ops_at short bad count left bytes = items_at (λ left. op_at short bad (next_weight left)) after_op count left bytes

-- a write, after its code; its last sequence is tested after its count
unfoldable pub write_at : {F : Type 0} → F → F → List ℕ → Result (LogRecord × List ℕ) F
write_at short bad bytes = do
  first ← ranged_number_at short bad w64 1 (2 ^ 64 - 1) bytes
  count ← ranged_number_at short bad w32 1 MAX_BATCH_OPS first.1
  if nat_lt seq.MAX (first.0 + count.0 - 1) then Err bad else
      (do
        ops ← ops_at short bad count.0 (record { ops = count.0; weight = MAX_BATCH_WEIGHT }) count.1
        Ok (Write first.0 ops.0, ops.1))

-- a freeze, after its code
unfoldable pub freeze_at : {F : Type 0} → F → F → List ℕ → Result (LogRecord × List ℕ) F
freeze_at short bad bytes = do
  at ← ranged_number_at short bad w64 1 seq.MAX bytes
  Ok (Freeze at.0, at.1)

-- a record from the front
unfoldable pub log_record_at : {F : Type 0} → F → F → List ℕ → Result (LogRecord × List ℕ) F
log_record_at short bad bytes = do
  code ← ranged_number_at short bad w8 1 2 bytes
  if code.0 == 1 then write_at short bad code.1 else freeze_at short bad code.1

-- a record, all of the bytes
unfoldable pub read_record : List ℕ → Result LogRecord FormatFault
read_record bytes = do
  r ← log_record_at Truncated BadField bytes
  if length r.1 == 0 then Ok r.0 else Err TrailingBytes
