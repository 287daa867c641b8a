use Rattle.std.proofs.lemmas.Slice.Eq.{slice_eq-Decides}
use Rattle.std.proofs.lemmas.Bool.Decides.{Decides-eqb}
use Rattle.lsm_msg.proofs.lists.same_points.Goals as goal

pub returns : goal.returns
returns c = slice_eq-Decides Decides-eqb c.args.ps.now c.args.qs.now c.eq.result c.eq.ensures
