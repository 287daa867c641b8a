use Rattle.lsm_msg.proofs.VisibleAfterMerge.{reads_stay}
use Rattle.lsm_msg.proofs.laws.reads_stay.Goals as goal

pub returns : goal.returns
returns c = reads_stay
