-- When a dispatch may report that a stream failed, or that it does not end: as its streams count their calls and their faults (RocksDB: I/O errors).
use Rattle.std.specs.Prelude.{ℕ}
use Rattle.lsm_pipe.specs.Counting.{MayFollow, read_faults_of, write_faults_of}
use Rattle.lsm_dispatch.specs.declared.error.DispatchError.{DispatchError}
use Rattle.lsm_dispatch.specs.declared.error.DispatchError.TheVariants as error

-- how many faults of the source an error is
abbrev pub read_faults_in : DispatchError → ℕ
read_faults_in (error.Pipe why) = read_faults_of why
read_faults_in e = 0

-- how many faults of the sink an error is
abbrev pub write_faults_in : DispatchError → ℕ
write_faults_in (error.Pipe why) = write_faults_of why
write_faults_in e = 0

-- the error may come after this many calls of a stream: that there is no end, only after 2^64 - 1 of them
abbrev pub MayStopAfter : DispatchError → ℕ → Type 0
MayStopAfter (error.Pipe why) calls = MayFollow why calls
MayStopAfter e calls = Unit {0}
