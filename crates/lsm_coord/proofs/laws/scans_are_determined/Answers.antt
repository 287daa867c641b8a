use Rattle.lsm_coord.proofs.ScansAgree.{scans_are_determined}
use Rattle.lsm_coord.proofs.laws.scans_are_determined.Goals as goal

pub returns : goal.returns
returns c = scans_are_determined
