use Rattle.lsm_merge.proofs.MergeIsDecided.{one_outcome}
use Rattle.lsm_merge.proofs.laws.a_merge_has_one_outcome.Goals as goal

pub returns : goal.returns
returns c = one_outcome
