use Rattle.lsm_pick.proofs.OneWant.{one_want}
use Rattle.lsm_pick.proofs.laws.a_candidate_proposes_one_want.Goals as goal

pub returns : goal.returns
returns c = one_want
