use Rattle.lsm_msg.proofs.FlushKeepsJobs.{flushes_keep_order}
use Rattle.lsm_msg.proofs.laws.flushes_keep_order.Goals as goal

pub returns : goal.returns
returns c = flushes_keep_order
