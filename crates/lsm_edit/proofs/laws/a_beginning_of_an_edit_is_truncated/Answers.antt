use Rattle.lsm_edit.proofs.EditLaws.{edit_cut}
use Rattle.lsm_edit.proofs.laws.a_beginning_of_an_edit_is_truncated.Goals as goal

pub returns : goal.returns
returns c = edit_cut
