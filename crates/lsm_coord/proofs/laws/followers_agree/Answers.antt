use Rattle.lsm_coord.proofs.RunInvariants.{followers_agree}
use Rattle.lsm_coord.proofs.laws.followers_agree.Goals as goal

pub returns : goal.returns
returns c = followers_agree
