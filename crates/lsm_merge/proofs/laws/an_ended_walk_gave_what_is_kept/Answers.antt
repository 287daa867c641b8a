use Rattle.lsm_merge.proofs.MergedWalks.{ended_walk}
use Rattle.lsm_merge.proofs.laws.an_ended_walk_gave_what_is_kept.Goals as goal

pub returns : goal.returns
returns c = ended_walk
