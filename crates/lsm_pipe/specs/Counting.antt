-- When a pipe may be reported to have failed, or not to end: as its streams count their calls and their faults (RocksDB: I/O errors).
use Rattle.std.specs.Prelude.{◌≡◌, ◌⊎◌, ℕ, ◌+◌, ◌≤◌, ◌^◌, Result, Ok, Err}
use Rattle.lsm_pipe.specs.declared.error.PipeError.{PipeError}
use Rattle.lsm_pipe.specs.declared.error.PipeError.TheVariants.{NoEnd, ReadFault, WriteFault}

-- how many faults of the source an error is
abbrev pub read_faults_of : PipeError → ℕ
read_faults_of ReadFault = 1
read_faults_of e = 0

-- how many faults of the sink an error is
abbrev pub write_faults_of : PipeError → ℕ
write_faults_of WriteFault = 1
write_faults_of e = 0

-- the error may come after this many calls of a stream: that there is no end, only after 2^64 - 1 of them
abbrev pub MayFollow : PipeError → ℕ → Type 0
MayFollow NoEnd calls = 2 ^ 64 ≤ calls + 1
MayFollow e calls = Unit {0}
