use Rattle.lsm_merge.proofs.MergedWalks.{refused_walk}
use Rattle.lsm_merge.proofs.laws.a_walk_is_refused_for_a_shared_entry.Goals as goal

pub returns : goal.returns
returns c = refused_walk
