use Rattle.lsm_coord.proofs.RunInvariants.{listings_agree}
use Rattle.lsm_coord.proofs.laws.listings_agree.Goals as goal

pub returns : goal.returns
returns c = listings_agree
