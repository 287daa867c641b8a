use Rattle.lsm_coord.proofs.RunInvariants.{versions_stay}
use Rattle.lsm_coord.proofs.laws.versions_stay.Goals as goal

pub returns : goal.returns
returns c = versions_stay
