-- What the streams count, and what a pipe reports of it.
use Rattle.std.proofs.Common.{◌≡◌, ℕ, ◌+◌, ◌≤◌, List, Option, Result, Ok, Err, refl, arith}
use Rattle.lsm_io.specs.Counts.{CountsReadFaults, CountsReads, CountsWriteFaults, CountsWrites}
use Rattle.lsm_io.specs.declared.sink.SinkError.{SinkError}
use Rattle.lsm_io.specs.declared.sink.SinkError.TheVariants as sink
use Rattle.lsm_io.specs.declared.source.SourceError.{SourceError}
use Rattle.lsm_io.specs.declared.source.SourceError.TheVariants as source
use Rattle.lsm_msg.specs.declared.message.Message.{Message}
use Rattle.lsm_pipe.specs.declared.error.PipeError.{PipeError}
use Rattle.lsm_pipe.specs.declared.error.PipeError.TheVariants as error
use Rattle.lsm_pipe.specs.Counting.{MayFollow, read_faults_of, write_faults_of}
use Rattle.lsm_pipe.specs.Frames.{FrameRefuses, MessageRefuses, NoMessage, SendRefuses, SendStops, sink_error_of, source_error_of}

-- ---- a source, and a sink

pub source_before : (T : Type 0) (why : SourceError) (a b : ℕ) → CountsReads {T = T} (Err why) a b → a ≤ b
source_before T source.ReadFault a b h = h
source_before T source.NoEnd a b h = h.0
source_before T source.OutOfMemory a b h = h

pub source_follows : (T : Type 0) (why : SourceError) (a b : ℕ) → CountsReads {T = T} (Err why) a b → MayFollow (source_error_of why) b
source_follows T source.ReadFault a b h = tt
source_follows T source.NoEnd a b h = h.1
source_follows T source.OutOfMemory a b h = tt

pub source_faults : (T : Type 0) (why : SourceError) (a b : ℕ) → CountsReadFaults {T = T} (Err why) a b → b ≡ a + read_faults_of (source_error_of why)
source_faults T source.ReadFault a b h = h
source_faults T source.NoEnd a b h = omega (arith, h)
source_faults T source.OutOfMemory a b h = omega (arith, h)

pub sink_before : (T : Type 0) (why : SinkError) (a b : ℕ) → CountsWrites {T = T} (Err why) a b → a ≤ b
sink_before T sink.WriteFault a b h = h
sink_before T sink.NoEnd a b h = h.0

pub sink_follows : (T : Type 0) (why : SinkError) (a b : ℕ) → CountsWrites {T = T} (Err why) a b → MayFollow (sink_error_of why) b
sink_follows T sink.WriteFault a b h = tt
sink_follows T sink.NoEnd a b h = h.1

pub sink_faults : (T : Type 0) (why : SinkError) (a b : ℕ) → CountsWriteFaults {T = T} (Err why) a b → b ≡ a + write_faults_of (sink_error_of why)
sink_faults T sink.WriteFault a b h = h
sink_faults T sink.NoEnd a b h = omega (arith, h)

-- ---- errors that are no fault of a stream

-- what comes of reading is no fault of the sink
pub frame_not_written : (known : Option (List ℕ)) (e : PipeError) → FrameRefuses known e → write_faults_of e ≡ 0
frame_not_written known error.WriteFault h = absurd h
frame_not_written known e h = refl

pub refused_not_written : (known : Option (List ℕ)) (e : PipeError) → MessageRefuses known e → write_faults_of e ≡ 0
refused_not_written known error.WriteFault h = absurd h
refused_not_written known e h = refl

-- what comes of the bytes of a frame is no fault of the source, and may follow any read
pub unspelled_not_read : (payload : List ℕ) (e : PipeError) → NoMessage payload e → read_faults_of e ≡ 0
unspelled_not_read payload error.ReadFault h = absurd h
unspelled_not_read payload e h = refl

pub unspelled_follows : (payload : List ℕ) (e : PipeError) (calls : ℕ) → NoMessage payload e → MayFollow e calls
unspelled_follows payload error.NoEnd calls h = absurd h
unspelled_follows payload e calls h = tt

-- what comes of sending is no fault of the source
pub send_not_read : (m : Message) (e : PipeError) → SendRefuses m e → read_faults_of e ≡ 0
send_not_read m error.ReadFault h = absurd h
send_not_read m e h = refl
