-- Logs, written out in full.
use Rattle.std.specs.Prelude.{◌≡◌, ℕ, List, [], ◌∷◌, None, Some, Ok}
use Rattle.lsm_key.specs.declared.op.Op.{Op}
use Rattle.lsm_key.specs.declared.op.Op.TheVariants.{Put}
use Rattle.lsm_edit.specs.declared.log_record.LogRecord.{LogRecord}
use Rattle.lsm_edit.specs.declared.log_record.LogRecord.TheVariants.{Write, Freeze}
use Rattle.lsm_edit.specs.LogRecord.{record_bytes, read_record}
use Rattle.lsm_edit.specs.Log.{BadRecords, LogHolds, log_ops, log_frozen}

-- put a 1
abbrev pub put_a : Op
put_a = Put (97 ∷ []) (49 ∷ [])

-- put b 2
abbrev pub put_b : Op
put_b = Put (98 ∷ []) (50 ∷ [])

-- the record of put a 1, the first write of all
abbrev pub one_write : LogRecord
one_write = Write 1 (put_a ∷ [])

-- its 22 bytes
abbrev pub one_write_bytes : List ℕ
one_write_bytes = 1 ∷ 0 ∷ 0 ∷ 0 ∷ 0 ∷ 0 ∷ 0 ∷ 0 ∷ 1 ∷ 0 ∷ 0 ∷ 0 ∷ 1 ∷ 1 ∷ 0 ∷ 1 ∷ 97 ∷ 0 ∷ 0 ∷ 0 ∷ 1 ∷ 49 ∷ []

-- the record is written as these bytes, and read from them
abbrev pub WriteHasTheseBytes : Type 0
WriteHasTheseBytes = (record_bytes one_write ≡ one_write_bytes) × (read_record one_write_bytes ≡ Ok one_write)

-- put a 1, freeze, put b 2: over sequence 0 both operations and the end 1, over 1 the second one and no end, over 2 nothing
abbrev pub two_memtables : List LogRecord
two_memtables = Write 1 (put_a ∷ []) ∷ Freeze 1 ∷ Write 2 (put_b ∷ []) ∷ []

-- over 0, 1 and 2 that log holds these operations and these frozen ends
abbrev pub HoldsTheWritesAbove : Type 0
HoldsTheWritesAbove =
    (log_ops 0 two_memtables ≡ put_a ∷ put_b ∷ []) × (log_frozen 0 two_memtables ≡ Some 1)
    × (log_ops 1 two_memtables ≡ put_b ∷ []) × (log_frozen 1 two_memtables ≡ None)
    × (log_ops 2 two_memtables ≡ []) × (log_frozen 2 two_memtables ≡ None)

-- an empty log is never bad, and holds nothing
abbrev pub EmptyHoldsNothing : Type 0
EmptyHoldsNothing = (flushed : ℕ) → LogHolds flushed [] [] None

-- a log of two writes between which a sequence is missing is bad over every flushed sequence
abbrev pub GapIsBad : Type 0
GapIsBad = (flushed : ℕ) → BadRecords flushed (Write 1 (put_a ∷ []) ∷ Write 3 (put_b ∷ []) ∷ [])

-- so are one that begins late, one whose write is half flushed, a freeze elsewhere, two freezes, and one that ends early
abbrev pub OthersAreBad : Type 0
OthersAreBad =
    BadRecords 0 (Write 2 (put_a ∷ []) ∷ []) × BadRecords 0 (Freeze 1 ∷ [])
    × BadRecords 1 (Write 1 (put_a ∷ put_b ∷ []) ∷ [])
    × BadRecords 0 (Write 1 (put_a ∷ []) ∷ Freeze 2 ∷ [])
    × BadRecords 0 (Write 1 (put_a ∷ []) ∷ Freeze 1 ∷ Write 2 (put_b ∷ []) ∷ Freeze 2 ∷ [])
    × BadRecords 2 (Write 1 (put_a ∷ []) ∷ [])

-- the log of two memtables is bad over none of 0, 1 and 2
abbrev pub TwoMemtablesAreGood : Type 0
TwoMemtablesAreGood =
    (BadRecords 0 two_memtables → ⊥) × (BadRecords 1 two_memtables → ⊥) × (BadRecords 2 two_memtables → ⊥)
