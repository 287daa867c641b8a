-- When a stream may be reported to have failed, or not to end (RocksDB: I/O errors; here they are counted, so that none is made up).
use Rattle.std.specs.Prelude.{◌≡◌, ℕ, ◌+◌, ◌<◌, ◌≤◌, ◌^◌, Result, Ok, Err}
use Rattle.lsm_io.specs.declared.sink.SinkError.{SinkError}
use Rattle.lsm_io.specs.declared.sink.SinkError.TheVariants as sink
use Rattle.lsm_io.specs.declared.source.SourceError.{SourceError}
use Rattle.lsm_io.specs.declared.source.SourceError.TheVariants as source

-- of an answer, with the reads counted before and after it: one was made, and that there is no end is reported only after 2^64 - 1 of them
abbrev pub CountsReads : {T : Type 0} → Result T SourceError → ℕ → ℕ → Type 0
CountsReads (Ok value) before after = before < after
CountsReads (Err source.NoEnd) before after = (before ≤ after) × (2 ^ 64 ≤ after + 1)
CountsReads (Err why) before after = before ≤ after

-- of an answer, with the faults counted before and after it: one more exactly if it is a fault
abbrev pub CountsReadFaults : {T : Type 0} → Result T SourceError → ℕ → ℕ → Type 0
CountsReadFaults (Err source.ReadFault) before after = after ≡ before + 1
CountsReadFaults answer before after = after ≡ before

-- the same of writes
abbrev pub CountsWrites : {T : Type 0} → Result T SinkError → ℕ → ℕ → Type 0
CountsWrites (Err sink.NoEnd) before after = (before ≤ after) × (2 ^ 64 ≤ after + 1)
CountsWrites answer before after = before ≤ after

-- of an answer, with the write faults counted before and after it: one more exactly if it is one
abbrev pub CountsWriteFaults : {T : Type 0} → Result T SinkError → ℕ → ℕ → Type 0
CountsWriteFaults (Err sink.WriteFault) before after = after ≡ before + 1
CountsWriteFaults answer before after = after ≡ before
