use Rattle.lsm_msg.proofs.OtherJobs.{installs_keep_jobs}
use Rattle.lsm_msg.proofs.laws.installs_keep_jobs.Goals as goal

pub returns : goal.returns
returns c = installs_keep_jobs
