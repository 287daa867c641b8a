use Rattle.lsm_msg.proofs.KeptEntries.{snapshot_keeps, both_go, deletion_stays}
use Rattle.lsm_msg.proofs.laws.worked_merges.Goals as goal

pub returns : goal.returns
returns c = record { snapshot = snapshot_keeps; alone = both_go; deeper = deletion_stays }
