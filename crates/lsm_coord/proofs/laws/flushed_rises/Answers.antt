use Rattle.lsm_coord.proofs.RunInvariants.{flushed_rises}
use Rattle.lsm_coord.proofs.laws.flushed_rises.Goals as goal

pub returns : goal.returns
returns c = flushed_rises
