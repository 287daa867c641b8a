-- What a call may report of the streams that it reads or writes, by what they counted: of any error, by how many faults of a stream it is, and after
-- how many calls of one it may come (RocksDB: I/O errors).
use Rattle.std.specs.Prelude.{◌≡◌, ◌⊎◌, ℕ, ◌+◌, ◌≤◌, Result, Ok, Err}

-- of an answer, with the faults counted before and after it: as many more as its error is
abbrev pub ReportsFaults : {T E : Type 0} → (E → ℕ) → Result T E → ℕ → ℕ → Type 0
ReportsFaults faults_of (Ok value) before after = after ≡ before
ReportsFaults faults_of (Err why) before after = after ≡ before + faults_of why

-- with the calls counted before and after it: an error comes only after as many as it may come after
abbrev pub ReportsAfter : {T E : Type 0} → (E → ℕ → Type 0) → Result T E → ℕ → ℕ → Type 0
ReportsAfter MayCome (Ok value) before after = before ≤ after
ReportsAfter MayCome (Err why) before after = (before ≤ after) × MayCome why after

-- with the reads of the source and the writes of the sink
abbrev pub ReportsAfterBoth : {T E : Type 0} → (E → ℕ → Type 0) → Result T E → ℕ → ℕ → ℕ → ℕ → Type 0
ReportsAfterBoth MayCome (Ok value) reads read writes written = (reads ≤ read) × (writes ≤ written)
ReportsAfterBoth MayCome (Err why) reads read writes written = (reads ≤ read) × (writes ≤ written) × (MayCome why read ⊎ MayCome why written)
