-- What calls in a row report, by what each of them did.
use Rattle.std.proofs.Common.{◌≡◌, ◌∙◌, ℕ, ◌≤◌, List, Option, Result, Ok, Err, IfErr, OnOk, arith, inl, inr}
use Rattle.lsm_coord.specs.Contract.Value.{CoordValue}
use Rattle.lsm_resp.specs.declared.fault.ProtocolFault.{ProtocolFault}
use Rattle.lsm_serve.specs.declared.error.ServeError.{ServeError}
use Rattle.lsm_serve.specs.declared.error.ServeError.TheVariants.{NoEnd, NotSynced, Protocol, ReadFault, Truncated, WriteFault}
use Rattle.lsm_io.specs.Streams.{AppendsPart}
use Rattle.lsm_io.specs.declared.sink.SinkError.{SinkError}
use Rattle.lsm_io.specs.declared.sink.SinkError.TheVariants as sink
use Rattle.lsm_serve.specs.Errors.{error_of_sink}
use Rattle.lsm_serve.specs.Counting.{ReportsCalls, ReportsReadFaults, ReportsReads, ReportsWriteFaults, ReportsWrites}
use Rattle.lsm_serve.specs.Serving.{AnswersLast}
use Rattle.lsm_serve.specs.ServingSteps.{AnswersFault, IsAnswerReason, IsReadReason, IsWriteReason, LeftUnsent}

-- ---- reasons

pub fault_reason : (fault : ProtocolFault) (held holds : Option (List ℕ)) (out : List ℕ) (why : ServeError) → AnswersFault fault held holds out why → IsAnswerReason why
fault_reason fault held holds out (Protocol other) p = tt
fault_reason fault held holds out why p = p

pub unsent_reason : (held holds : Option (List ℕ)) (out : List ℕ) (why : ServeError) → LeftUnsent held holds out why → IsWriteReason why
unsent_reason held holds out (NotSynced e) p = tt
unsent_reason held holds out WriteFault p = tt
unsent_reason held holds out NoEnd p = tt
unsent_reason held holds out why p = absurd p

pub answer_reason : (why : ServeError) → IsWriteReason why → IsAnswerReason why
answer_reason (Protocol fault) p = tt
answer_reason why p = p

pub no_last : (T : Type 0) (old new : CoordValue) (held holds : Option (List ℕ)) (why : ServeError) → IsWriteReason why → AnswersLast {A = T} old held holds (Err why) new
no_last T old new held holds (Protocol fault) p = absurd p
no_last T old new held holds why p = tt

pub same_last : (T U : Type 0) (old new : CoordValue) (held holds : Option (List ℕ)) (why : ServeError) → AnswersLast {A = T} old held holds (Err why) new → AnswersLast {A = U} old held holds (Err why) new
same_last T U old new held holds (Protocol fault) p = p
same_last T U old new held holds why p = tt

pub read_is_no_last : (T : Type 0) (old new : CoordValue) (held holds : Option (List ℕ)) (why : ServeError) → IsReadReason why → AnswersLast {A = T} old held holds (Err why) new
read_is_no_last T old new held holds (Protocol fault) p = absurd p
read_is_no_last T old new held holds why p = tt

-- why the last write fails is why what was asked for is not answered
pub reason_answers : (fault : ProtocolFault) (held holds : Option (List ℕ)) (out : List ℕ) (why : ServeError) → IsWriteReason why → AnswersFault fault held holds out why
reason_answers fault held holds out (Protocol other) p = absurd p
reason_answers fault held holds out why p = p

pub unsent_by_sink : (why : SinkError) (held holds : Option (List ℕ)) (out : List ℕ) → AppendsPart held holds out → LeftUnsent held holds out (error_of_sink why)
unsent_by_sink sink.WriteFault held holds out part = part
unsent_by_sink sink.NoEnd held holds out part = part

-- ---- counts

pub answer_reads_no_fault : (U : Type 0) (why : ServeError) (before after : ℕ) → IsAnswerReason why → after ≡ before → ReportsReadFaults {T = U} (Err why) before after
answer_reads_no_fault U ReadFault before after p same = absurd p
answer_reads_no_fault U why before after p same = same

pub read_writes_no_fault : (U : Type 0) (why : ServeError) (before after : ℕ) → IsReadReason why → after ≡ before → ReportsWriteFaults {T = U} (Err why) before after
read_writes_no_fault U WriteFault before after p same = absurd p
read_writes_no_fault U why before after p same = same

pub read_faults_then : (T U : Type 0) (why : ServeError) (before mid after : ℕ) → mid ≡ before → ReportsReadFaults {T = T} (Err why) mid after → ReportsReadFaults {T = U} (Err why) before after
read_faults_then T U ReadFault before mid after same p = omega (arith, same, p)
read_faults_then T U why before mid after same p = p ∙ same

pub write_faults_then : (T U : Type 0) (why : ServeError) (before mid after : ℕ) → mid ≡ before → ReportsWriteFaults {T = T} (Err why) mid after → ReportsWriteFaults {T = U} (Err why) before after
write_faults_then T U WriteFault before mid after same p = omega (arith, same, p)
write_faults_then T U why before mid after same p = p ∙ same

pub writes_then : (T U : Type 0) (why : ServeError) (before mid after : ℕ) → before ≤ mid → ReportsWrites {T = T} (Err why) mid after → ReportsWrites {T = U} (Err why) before after
writes_then T U NoEnd before mid after first p = (omega (arith, first, p.0), p.1)
writes_then T U why before mid after first p = omega (arith, first, p)

-- the call that is the last one writes, or it reads
pub calls_of_writes : (T U : Type 0) (why : ServeError) (reads read before mid after : ℕ) → reads ≤ read → before ≤ mid → ReportsWrites {T = T} (Err why) mid after → ReportsCalls {T = U} (Err why) reads read before after
calls_of_writes T U NoEnd reads read before mid after sound first p = (sound, omega (arith, first, p.0), inr p.1)
calls_of_writes T U why reads read before mid after sound first p = (sound, omega (arith, first, p))

pub calls_of_reads : (T U : Type 0) (why : ServeError) (before mid after writes written : ℕ) → before ≤ mid → writes ≤ written → ReportsReads {T = T} (Err why) mid after → ReportsCalls {T = U} (Err why) before after writes written
calls_of_reads T U NoEnd before mid after writes written first sound p = (omega (arith, first, p.0), sound, inl p.1)
calls_of_reads T U why before mid after writes written first sound p = (omega (arith, first, p), sound)

-- ---- the end of the input

pub ends_calls : {T : Type 0} (r : Result T ServeError) (reads read writes written : ℕ) → IfErr r (λ e. e ≡ Truncated) → reads ≤ read → writes ≤ written → ReportsCalls r reads read writes written
ends_calls (Ok x) reads read writes written why first second = (first, second)
ends_calls (Err e) reads read writes written why first second = rw why (first, second)

pub ends_read_faults : {T : Type 0} (r : Result T ServeError) (before after : ℕ) → IfErr r (λ e. e ≡ Truncated) → after ≡ before → ReportsReadFaults r before after
ends_read_faults (Ok x) before after why same = same
ends_read_faults (Err e) before after why same = rw why same

pub ends_write_faults : {T : Type 0} (r : Result T ServeError) (before after : ℕ) → IfErr r (λ e. e ≡ Truncated) → after ≡ before → ReportsWriteFaults r before after
ends_write_faults (Ok x) before after why same = same
ends_write_faults (Err e) before after why same = rw why same

pub ends_last : {T : Type 0} (old new : CoordValue) (held holds : Option (List ℕ)) (r : Result T ServeError) → IfErr r (λ e. e ≡ Truncated) → AnswersLast old held holds r new
ends_last old new held holds (Ok x) why = tt
ends_last old new held holds (Err e) why = rw why tt

pub ends_flushed : {T : Type 0} (r : Result T ServeError) (P : Type 0) → P → OnOk r P
ends_flushed (Ok x) P p = p
ends_flushed (Err e) P p = tt
