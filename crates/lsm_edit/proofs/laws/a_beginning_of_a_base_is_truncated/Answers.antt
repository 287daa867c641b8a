use Rattle.lsm_edit.proofs.BaseLaws.{base_cut}
use Rattle.lsm_edit.proofs.laws.a_beginning_of_a_base_is_truncated.Goals as goal

pub returns : goal.returns
returns c = base_cut
