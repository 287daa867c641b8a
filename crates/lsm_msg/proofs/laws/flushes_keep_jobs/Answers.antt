use Rattle.lsm_msg.proofs.FlushKeepsJobs.{flushes_keep_jobs}
use Rattle.lsm_msg.proofs.laws.flushes_keep_jobs.Goals as goal

pub returns : goal.returns
returns c = flushes_keep_jobs
