-- Jobs that are live together (RocksDB wiki, Leveled Compaction: compactions in parallel).
use Rattle.std.specs.Prelude.{◌≡◌, ℕ, ◌<◌, ◌≤◌, Bool, true, not, ◌&&◌, List, [], ◌∷◌, Option, filter, find, nat_eq}
use Rattle.std.specs.Option.{option_map}
use Rattle.lsm_key.specs.Sets.{IsIn}
use Rattle.lsm_claim.specs.declared.job.JobId.{JobId}
use Rattle.lsm_claim.specs.declared.job.LiveJob.{LiveJob}
use Rattle.lsm_claim.specs.declared.job.Want.{Want}
use Rattle.lsm_claim.specs.Conflicts.{covers, conflicts}
use Rattle.lsm_claim.specs.Levels.{uses_level}

-- numbers rise from job to job
abbrev pub JobNumbersRise : List LiveJob → Type 0
JobNumbersRise [] = Unit {0}
JobNumbersRise (j ∷ js) = ((k : LiveJob) → IsIn k js → j.id.number < k.id.number) × JobNumbersRise js

-- no two jobs conflict
abbrev pub AreApart : List LiveJob → Type 0
AreApart jobs = (j k : LiveJob) → IsIn j jobs → IsIn k jobs → conflicts j.want k.want ≡ true → j ≡ k

-- no two jobs that use a level have a key in common
abbrev pub ShareNoKey : List LiveJob → Type 0
ShareNoKey jobs =
    (j k : LiveJob) → IsIn j jobs → IsIn k jobs → (level : ℕ) → uses_level j.want.level level ≡ true → uses_level k.want.level level ≡ true
    → (key : List ℕ) → covers j.want.hull key ≡ true → covers k.want.hull key ≡ true → j ≡ k

-- of the jobs, which are in order of number, the first that conflicts
abbrev pub first_conflict : List LiveJob → Want → Option JobId
first_conflict jobs want = option_map (λ j. j.id) (find (λ j. conflicts j.want want) jobs)

-- of the jobs, this name is that of the least number that conflicts
pub record IsLeastConflict (jobs : List LiveJob) (want : Want) (id : JobId) : Type 0 where
  pub job : LiveJob
  pub member : IsIn job jobs
  pub named : job.id ≡ id
  pub conflicting : conflicts job.want want ≡ true
  pub least : (k : LiveJob) → IsIn k jobs → conflicts k.want want ≡ true → id.number ≤ k.id.number

-- the two names are one: the same epoch, and the same number
abbrev pub same_job_id : JobId → JobId → Bool
same_job_id a b = nat_eq a.epoch b.epoch && nat_eq a.number b.number

-- the jobs but the one of this name
abbrev pub without_job : JobId → List LiveJob → List LiveJob
without_job id jobs = filter (λ j. not (same_job_id j.id id)) jobs
