-- The lists rise, and have every record of a history of their length.
use Rattle.lsm_nodes.proofs.PartedHistories.{parted_exactly}
use Rattle.lsm_nodes.proofs.matching.is_parted.Goals as goal

pub returns : goal.returns
returns g c = parted_exactly c.args.history.now c.args.mine.now c.args.others.now c.has_all.result (c.rises.ensures.0 c.if-not-rises.false) (c.all_rise.ensures.0 c.if-not-all_rise.false) c.requires c.has_all.ensures
