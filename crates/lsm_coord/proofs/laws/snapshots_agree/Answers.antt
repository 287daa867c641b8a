use Rattle.lsm_coord.proofs.SnapshotReads.{snapshots_agree}
use Rattle.lsm_coord.proofs.laws.snapshots_agree.Goals as goal

pub returns : goal.returns
returns c = snapshots_agree
