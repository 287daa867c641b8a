use Rattle.std.proofs.lemmas.Slice.Eq.{slice_eq-Decides}
use Rattle.std.proofs.lemmas.Bool.Decides.{Decides-eqb}
use Rattle.lsm_coord.proofs.answer.same_file_numbers.Goals as goal

pub returns : goal.returns
returns c = slice_eq-Decides Decides-eqb c.args.numbers.now c.args.others.now c.eq.result c.eq.ensures
