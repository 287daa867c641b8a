-- What the parts of a job may be (RocksDB wiki, Remote Compaction: the input of a compaction service; the limits are the store's own).
use Rattle.std.specs.Prelude.{◌≡◌, ℕ, ◌<◌, ◌≤◌, true, List, length, All, AllPairs, Any}
use Rattle.lsm_key.specs.declared.limits.TheConstants.{MAX_NUMBER, MAX_DEEPER, MAX_INPUTS, MAX_POINTS}
use Rattle.lsm_claim.specs.declared.job.JobId.{JobId}
use Rattle.lsm_claim.specs.Levels.{uses_level}
use Rattle.lsm_edit.specs.declared.file.FileMeta.{FileMeta}
use Rattle.lsm_edit.specs.File.{AreKeys, IsFile}
use Rattle.lsm_key.specs.declared.range.KeyRange.{KeyRange}

-- a name that an epoch may issue
pub record IsJobId (id : JobId) : Type 0 where
  pub some_epoch : 1 ≤ id.epoch
  pub epoch : id.epoch ≤ MAX_NUMBER
  pub some_number : 1 ≤ id.number
  pub number : id.number ≤ MAX_NUMBER

-- ascending sequences
pub record ArePoints (points : List ℕ) : Type 0 where
  pub few : length points ≤ MAX_POINTS
  pub rising : AllPairs (λ p q. p < q) points

-- a file record within its rules, of a job's upper level or the next one
pub record IsInput (upper : ℕ) (f : FileMeta) : Type 0 where
  pub level : uses_level upper f.level ≡ true
  pub file : IsFile f

-- inputs by number, one of them of the upper level
pub record AreInputs (upper : ℕ) (files : List FileMeta) : Type 0 where
  pub few : length files ≤ MAX_INPUTS
  pub each : All (IsInput upper) files
  pub rising : AllPairs (λ f g. f.number < g.number) files
  pub own : Any (λ f. f.level ≡ upper) files

-- ranges of keys
pub record AreDeeper (ranges : List KeyRange) : Type 0 where
  pub few : length ranges ≤ MAX_DEEPER
  pub each : All (λ r. AreKeys r.lo r.hi) ranges
