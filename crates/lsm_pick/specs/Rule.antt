-- The rule of a pick (LevelDB, version_set.cc, VersionSet::PickCompaction; RocksDB wiki, Leveled Compaction: compactions in parallel).
use Rattle.std.specs.Prelude.{◌≡◌, ◌⊎◌, ℕ, ◌+◌, Bool, true, false, not, ◌&&◌, List, [], ◌∷◌, ◌++◌, filter, flat_map, length, map, sum_by, nat_eq, nat_lt, nat_le, if◌then◌else◌}
use Rattle.std.specs.List.{list_any}
use Rattle.lsm_key.specs.Sets.{IsIn}
use Rattle.lsm_key.specs.declared.limits.Limits.{Limits}
use Rattle.lsm_claim.specs.declared.job.LiveJob.{LiveJob}
use Rattle.lsm_claim.specs.declared.job.Want.{Want}
use Rattle.lsm_claim.specs.Conflicts.{conflicts}
use Rattle.lsm_edit.specs.declared.file.FileMeta.{FileMeta}
use Rattle.lsm_key.specs.declared.limits.TheConstants.{MAX_DEEPER, MAX_INPUTS, MAX_INPUT_BYTES}
use Rattle.lsm_msg.specs.Legal.{touches, encloses}
use Rattle.lsm_pick.specs.Closure.{Candidate, IsClosure}
use Rattle.lsm_pick.specs.Due.{of_level, due_levels}

-- ---- the candidates, in their order

-- a file of level 0 is tried with all that overlap it, and then with older ones only
abbrev pub file_candidates : FileMeta → List Candidate
file_candidates f =
    if nat_eq f.level 0 then record { first = f; older_only = false } ∷ record { first = f; older_only = true } ∷ []
    else record { first = f; older_only = false } ∷ []

abbrev pub level_candidates : List FileMeta → ℕ → List Candidate
level_candidates files level = flat_map file_candidates (of_level level files)

-- due levels from the lowest number up, in each the files by number
abbrev pub candidates : Limits → List FileMeta → List Candidate
candidates limits files = flat_map (level_candidates files) (due_levels limits files)

-- ---- one candidate

-- the inputs of a compaction, by number
abbrev pub inputs_of : List FileMeta → Want → List FileMeta
inputs_of files want = filter (λ f. list_any (nat_eq f.number) want.files) files

-- a file below both levels that may have keys of the compaction
abbrev pub is_deeper : Want → FileMeta → Bool
is_deeper want f = nat_lt (want.level + 1) f.level && touches want.hull f

-- a candidate proposes its closure, with the hull from the least key of its files to the greatest
pub record Proposes (files : List FileMeta) (t : Candidate) (want : Want) : Type 0 where
  pub level : want.level ≡ t.first.level
  pub files_are : want.files ≡ map (λ f. f.number) (inputs_of files want)
  pub closure : IsClosure files t (inputs_of files want)
  pub inside : (f : FileMeta) → IsIn f (inputs_of files want) → encloses want.hull f ≡ true
  pub least : (f : FileMeta) × IsIn f (inputs_of files want) × (f.smallest ≡ want.hull.lo)
  pub greatest : (f : FileMeta) × IsIn f (inputs_of files want) × (f.largest ≡ want.hull.hi)

-- it conflicts with no running job
abbrev pub is_free : List LiveJob → Want → Bool
is_free live want = not (list_any (λ j. conflicts j.want want) live)

-- it is within the job limits
abbrev pub fits_limits : List FileMeta → Want → Bool
fits_limits files want =
    nat_le (length (inputs_of files want)) MAX_INPUTS
    && (nat_le (sum_by (λ f. f.bytes) (inputs_of files want)) MAX_INPUT_BYTES
    && nat_le (length (filter (is_deeper want) files)) MAX_DEEPER)

-- ---- outcomes

-- eligible: it conflicts with no running job and is within the job limits
pub record IsEligible (files : List FileMeta) (live : List LiveJob) (t : Candidate) (want : Want) : Type 0 where
  pub asks : Proposes files t want
  pub free : is_free live want ≡ true
  pub within : fits_limits files want ≡ true

-- blocked: it conflicts with a running job
abbrev pub IsBlocked : List FileMeta → List LiveJob → Candidate → Type 0
IsBlocked files live t = (want : Want) × Proposes files t want × (is_free live want ≡ false)

-- too large: it conflicts with no running job, but exceeds a job limit
abbrev pub IsTooLarge : List FileMeta → List LiveJob → Candidate → Type 0
IsTooLarge files live t = (want : Want) × Proposes files t want × (is_free live want ≡ true) × (fits_limits files want ≡ false)

-- skipped: not eligible
abbrev pub IsSkipped : List FileMeta → List LiveJob → Candidate → Type 0
IsSkipped files live t = IsBlocked files live t ⊎ IsTooLarge files live t

-- the compaction is that of the first eligible candidate
pub record IsFirst (files : List FileMeta) (live : List LiveJob) (ts : List Candidate) (want : Want) : Type 0 where
  pub before : List Candidate
  pub candidate : Candidate
  pub after : List Candidate
  pub order : ts ≡ before ++ candidate ∷ after
  pub skipped : (t : Candidate) → IsIn t before → IsSkipped files live t
  pub taken : IsEligible files live candidate want

-- no candidate is eligible, and at least one failed only by size
abbrev pub AreTooLarge : List FileMeta → List LiveJob → List Candidate → Type 0
AreTooLarge files live ts = ((t : Candidate) → IsIn t ts → IsSkipped files live t) × ((t : Candidate) × IsIn t ts × IsTooLarge files live t)

-- every candidate conflicts with a running job
abbrev pub AreBlocked : List FileMeta → List LiveJob → List Candidate → Type 0
AreBlocked files live ts = (t : Candidate) → IsIn t ts → IsBlocked files live t
