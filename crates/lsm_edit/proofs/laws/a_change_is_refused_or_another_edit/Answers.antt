use Rattle.lsm_edit.proofs.EditLaws.{other_edit}
use Rattle.lsm_edit.proofs.laws.a_change_is_refused_or_another_edit.Goals as goal

pub returns : goal.returns
returns c = other_edit
