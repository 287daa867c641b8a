use Rattle.std.proofs.Common.{◌∙◌, sym}
use Rattle.lsm_coord.proofs.SnapshotSteps.{is_point}
use Rattle.lsm_coord.proofs.ShownRanges.{scan_follows}
use Rattle.lsm_coord.proofs.coord.Coord.scan.Goals as goal

pub pairs_between-requires : goal.pairs_between-requires
pairs_between-requires g c = is_point c.args.self.now c.args.at c.in-Some.point (sym c.point_of.ensures ∙ c.in-Some.is)

pub returns-clause-step : goal.returns-clause-step
returns-clause-step g c =
    scan_follows c.args.self.now c.args.at c.in-Some.point c.args.lo.now c.args.hi.now c.args.limit c.in_ok-pairs.pairs.items (sym c.point_of.ensures ∙ c.in-Some.is) c.in_ok-pairs.ensures
