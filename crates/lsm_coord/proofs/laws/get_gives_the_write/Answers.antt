use Rattle.lsm_coord.proofs.RunInvariants.{get_gives_the_write}
use Rattle.lsm_coord.proofs.laws.get_gives_the_write.Goals as goal

pub returns : goal.returns
returns c = get_gives_the_write
