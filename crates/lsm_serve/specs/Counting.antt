-- When a stream may be reported to have failed, or not to end: as it counts its calls and its faults (RocksDB: I/O errors).
use Rattle.std.specs.Prelude.{◌≡◌, ◌⊎◌, ℕ, ◌+◌, ◌<◌, ◌≤◌, ◌^◌, Result, Ok, Err}
use Rattle.lsm_serve.specs.declared.error.ServeError.{ServeError}
use Rattle.lsm_serve.specs.declared.error.ServeError.TheVariants.{NoEnd, ReadFault, WriteFault}

-- of an answer, with the faults of the source counted before and after it: one more exactly if it is one
abbrev pub ReportsReadFaults : {T : Type 0} → Result T ServeError → ℕ → ℕ → Type 0
ReportsReadFaults (Err ReadFault) before after = after ≡ before + 1
ReportsReadFaults answer before after = after ≡ before

-- with those of the sink
abbrev pub ReportsWriteFaults : {T : Type 0} → Result T ServeError → ℕ → ℕ → Type 0
ReportsWriteFaults (Err WriteFault) before after = after ≡ before + 1
ReportsWriteFaults answer before after = after ≡ before

-- with the reads counted before and after it: one was made, and that there is no end is reported only after all that are counted
abbrev pub ReportsReads : {T : Type 0} → Result T ServeError → ℕ → ℕ → Type 0
ReportsReads (Ok value) before after = before < after
ReportsReads (Err NoEnd) before after = (before ≤ after) × (2 ^ 64 ≤ after + 1)
ReportsReads (Err why) before after = before ≤ after

-- with the writes counted before and after it: the same of no end
abbrev pub ReportsWrites : {T : Type 0} → Result T ServeError → ℕ → ℕ → Type 0
ReportsWrites (Err NoEnd) before after = (before ≤ after) × (2 ^ 64 ≤ after + 1)
ReportsWrites answer before after = before ≤ after

-- with both, the reads first
abbrev pub ReportsCalls : {T : Type 0} → Result T ServeError → ℕ → ℕ → ℕ → ℕ → Type 0
ReportsCalls (Err NoEnd) reads read writes written = (reads ≤ read) × (writes ≤ written) × ((2 ^ 64 ≤ read + 1) ⊎ (2 ^ 64 ≤ written + 1))
ReportsCalls answer reads read writes written = (reads ≤ read) × (writes ≤ written)
