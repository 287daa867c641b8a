use Rattle.std.proofs.Common.{◌≡◌, drop}
use Rattle.lsm_coord.specs.Model.State.{snapshot_at}
use Rattle.lsm_coord.proofs.coord.Coord.seq_of.Given as goal

abbrev pub invariant-loop-live : goal.invariant-loop-live
invariant-loop-live g l = snapshot_at (drop l.live-index l.live-items) l.id ≡ snapshot_at l.self.snapshots l.id
