-- The answers of a coordinator's calls, as plain data.
use Rattle.std.specs.Prelude.{◌≡◌, ℕ, ◌≤◌, List, [], Option, None, Some, Result, Ok, Err, Vec, length, vec_capacity}
use Rattle.lsm_claim.specs.declared.job.LiveJob.{LiveJob}
use Rattle.lsm_msg.specs.declared.job.JobParts.{JobParts}
use Rattle.lsm_coord.specs.declared.answer.Answer.{Answer}
use Rattle.lsm_coord.specs.declared.answer.Answer.TheVariants as answer
use Rattle.lsm_coord.specs.declared.answer.ShownVersion.{ShownVersion}
use Rattle.lsm_coord.specs.declared.coord.flush.Flushed.{Flushed}
use Rattle.lsm_coord.specs.declared.coord.install.Install.{Install}
use Rattle.lsm_coord.specs.declared.coord.install.Install.TheVariants as became
use Rattle.lsm_coord.specs.declared.error.CoordError.{CoordError}
use Rattle.lsm_coord.specs.declared.snapshot.SnapId.{SnapId}
use Rattle.lsm_coord.specs.Contract.Replies.{error_of}

-- what is answered, or why the call was refused
abbrev pub answer_of : {T : Type 0} → (T → Answer) → Result T CoordError → Answer
answer_of told (Ok x) = told x
answer_of told (Err why) = answer.Refused why

-- the result of a write, as an answer
abbrev pub write_answer : Result (ℕ × ℕ) CoordError → Answer
write_answer r = answer_of (λ (seqs : ℕ × ℕ). answer.Wrote seqs.0 seqs.1) r

-- the result of a freeze, as an answer
abbrev pub freeze_answer : Result ℕ CoordError → Answer
freeze_answer r = answer_of (λ (seq : ℕ). answer.Froze seq) r

-- the result of a flush, as an answer
abbrev pub flush_answer : Result Flushed CoordError → Answer
flush_answer r = answer_of (λ (f : Flushed). answer.Flushed f) r

-- the result of making a snapshot, as an answer
abbrev pub snapshot_answer : Result (SnapId × ℕ) CoordError → Answer
snapshot_answer r = answer_of (λ (s : SnapId × ℕ). answer.Snapped s.0 s.1) r

-- the result of releasing a snapshot, as an answer
abbrev pub release_answer : Result (Unit {0}) CoordError → Answer
release_answer r = answer_of (λ (u : Unit {0}). answer.Released) r

-- the result of a get, as an answer
abbrev pub get_answer : Result (Option (List ℕ)) CoordError → Answer
get_answer r = answer_of (λ (value : Option (List ℕ)). answer.Got value) r

-- the result of a scan, as an answer
abbrev pub scan_answer : {Z : Type 0} → Result (Vec (List ℕ × List ℕ) Z) CoordError → Answer
scan_answer {Z} r = answer_of (λ (pairs : Vec (List ℕ × List ℕ) Z). answer.Scanned pairs.items) r

-- the result of a listing, as an answer
abbrev pub show_answer : Result ShownVersion CoordError → Answer
show_answer r = answer_of (λ (v : ShownVersion). answer.Shown v) r

-- the result of a trim, as an answer
abbrev pub trim_answer : Result (ℕ × List ℕ) CoordError → Answer
trim_answer r = answer_of (λ (t : ℕ × List ℕ). answer.Trimmed t.0 t.1) r

-- what was picked, as an answer: the job without its claim, or that no job was
abbrev pub picked_answer : Option (LiveJob × JobParts) → Answer
picked_answer None = answer.Idle
picked_answer (Some picked) = answer.Picked picked.1

-- the result of a pick, as an answer
abbrev pub pick_answer : Result (Option (LiveJob × JobParts)) CoordError → Answer
pick_answer r = answer_of picked_answer r

-- what became of an install, as an answer
abbrev pub install_answer : Install → Answer
install_answer (became.Done number files) = answer.Installed number files
install_answer (became.Stale id epoch) = answer.Stale id epoch
install_answer (became.Kept claim why) = answer.Refused (error_of why)

-- ---- room for the numbers of an install

-- an empty vector that has room for this many
abbrev pub IsRoom : {Z : Type 0} → ℕ → Vec ℕ Z → Type 0
IsRoom count v = (v.items ≡ []) × (count ≤ vec_capacity v)

-- at most this many files
abbrev pub HasFewFiles : ℕ → Install → Type 0
HasFewFiles count (became.Done number files) = length files ≤ count
HasFewFiles count (became.Stale id epoch) = Unit {0}
HasFewFiles count (became.Kept claim why) = Unit {0}
