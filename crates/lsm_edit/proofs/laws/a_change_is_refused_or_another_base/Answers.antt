use Rattle.lsm_edit.proofs.BaseLaws.{other_base}
use Rattle.lsm_edit.proofs.laws.a_change_is_refused_or_another_base.Goals as goal

pub returns : goal.returns
returns c = other_base
