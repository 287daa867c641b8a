use Rattle.lsm_msg.proofs.KeptEntries.{kept_input}
use Rattle.lsm_msg.proofs.laws.kept_are_inputs.Goals as goal

pub returns : goal.returns
returns c = kept_input
