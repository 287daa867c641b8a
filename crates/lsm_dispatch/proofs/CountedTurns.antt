-- What a turn counts, by what its read and its write do.
use Rattle.std.proofs.Common.{◌≡◌, ℕ, ◌<◌, ◌≤◌, List, Result, Ok, Err, IfErr, refl, arith, inr}
use Rattle.std.specs.Prelude.{OnOk}
use Rattle.lsm_pipe.specs.declared.error.PipeError.{PipeError}
use Rattle.lsm_pipe.specs.declared.error.PipeError.TheVariants as pipe
use Rattle.lsm_pipe.specs.Counting.{MayFollow, read_faults_of, write_faults_of}
use Rattle.lsm_dispatch.specs.declared.error.DispatchError.{DispatchError}
use Rattle.lsm_io.specs.Reports.{ReportsAfter, ReportsAfterBoth, ReportsFaults}
use Rattle.lsm_dispatch.specs.Counting.{MayStopAfter, read_faults_in}
use Rattle.lsm_dispatch.specs.Letters.{NoLetter}

-- what comes of the bytes of a frame is no fault of a stream, and may follow any read
pub no_letter_counts : (payload : List ℕ) (e : PipeError) → NoLetter payload e → (calls : ℕ) → (read_faults_of e ≡ 0) × (write_faults_of e ≡ 0) × MayFollow e calls
no_letter_counts payload pipe.NotMessage h calls = (refl, refl, tt)
no_letter_counts payload pipe.OutOfMemory h calls = (refl, refl, tt)
no_letter_counts payload e h calls = absurd h

-- a read, and then what a send counts
pub both_counted : (r : Result (Unit {0}) DispatchError) (reads read writes written : ℕ) → reads ≤ read → ReportsAfter MayStopAfter r writes written → ReportsAfterBoth MayStopAfter r reads read writes written
both_counted (Ok x) reads read writes written h sent = (h, sent)
both_counted (Err e) reads read writes written h sent = (h, sent.0, inr sent.1)

-- a read without a fault, and then a send, which has none of the source
pub unread_counted : (r : Result (Unit {0}) DispatchError) (before after : ℕ) → after ≡ before → IfErr r (λ e. read_faults_in e ≡ 0) → ReportsFaults read_faults_in r before after
unread_counted (Ok x) before after same none = same
unread_counted (Err e) before after same none = omega (arith, same, none)

pub turns_counted : (r : Result (Unit {0}) DispatchError) (reads read : ℕ) → reads < read → OnOk r (reads < read)
turns_counted (Ok x) reads read h = h
turns_counted (Err e) reads read h = tt
