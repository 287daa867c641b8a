use Rattle.lsm_msg.proofs.InstallReads.{installs_keep_reads}
use Rattle.lsm_msg.proofs.laws.installs_keep_reads.Goals as goal

pub returns : goal.returns
returns c = installs_keep_reads
