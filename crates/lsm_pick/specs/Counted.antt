-- The job limits, for the closure with a given key range.
use Rattle.std.specs.Prelude.{ℕ, ◌+◌, Bool, ◌&&◌, List, Option, None, Some, filter, length, nat_lt, nat_le, sum_by, if◌then◌else◌}
use Rattle.lsm_edit.specs.declared.file.FileMeta.{FileMeta}
use Rattle.lsm_key.specs.declared.limits.TheConstants.{MAX_DEEPER, MAX_INPUTS, MAX_INPUT_BYTES}
use Rattle.lsm_pick.specs.Closure.{Candidate}
use Rattle.lsm_pick.specs.Reach.{is_met, is_taken}

-- the bytes of a job's inputs, if there are not too many of these
abbrev pub input_bytes : List FileMeta → Option ℕ
input_bytes files = if nat_le (length files) MAX_INPUTS then Some (sum_by (λ f. f.bytes) files) else None

-- the files below both levels that may have a key of it
abbrev pub deeper_than : ℕ → List ℕ → List ℕ → List FileMeta → List FileMeta
deeper_than level lo hi files = filter (λ f. nat_lt (level + 1) f.level && is_met lo hi f) files

-- the closure that reaches from lo to hi is within the limits of a job: its files, their bytes, and deeper files
abbrev pub fits_job : Candidate → List ℕ → List ℕ → List FileMeta → Bool
fits_job t lo hi files =
    nat_le (length (filter (is_taken t lo hi) files)) MAX_INPUTS
    && (nat_le (sum_by (λ f. f.bytes) (filter (is_taken t lo hi) files)) MAX_INPUT_BYTES
    && nat_le (length (deeper_than t.first.level lo hi files)) MAX_DEEPER)
