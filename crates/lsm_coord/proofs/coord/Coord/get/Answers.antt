use Rattle.std.proofs.Common.{◌∙◌, sym}
use Rattle.lsm_coord.proofs.SnapshotSteps.{is_point}
use Rattle.lsm_coord.proofs.coord.Coord.get.Goals as goal

pub value_of-requires : goal.value_of-requires
value_of-requires g c = is_point c.args.self.now c.args.at c.in-Some.point (sym c.point_of.ensures ∙ c.in-Some.is)
