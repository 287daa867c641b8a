use Rattle.lsm_block.proofs.BlockBeginnings.{other_block}
use Rattle.lsm_block.proofs.laws.a_change_is_refused_or_another_block.Goals as goal

pub returns : goal.returns
returns c = λ limit bytes changed es low. other_block limit low bytes changed es
