-- Which jobs there are (RocksDB wiki, Remote Compaction: the input of a compaction service; LevelDB, implementation notes: compactions).
use Rattle.std.specs.Prelude.{◌≤◌}
use Rattle.lsm_key.specs.declared.limits.TheConstants.{MAX_TABLE_BYTES, MAX_JOB_LEVEL}
use Rattle.lsm_msg.specs.declared.job.JobParts.{JobParts}
use Rattle.lsm_msg.specs.Rules.{IsJobId, ArePoints, AreInputs, AreDeeper}

-- a job within the rules of its format
pub record IsJob (j : JobParts) : Type 0 where
  pub id : IsJobId j.id
  pub level : j.level ≤ MAX_JOB_LEVEL
  pub some_block : 1 ≤ j.block
  pub most_block : j.block ≤ MAX_TABLE_BYTES
  pub points : ArePoints j.points
  pub inputs : AreInputs j.level j.inputs
  pub deeper : AreDeeper j.deeper
