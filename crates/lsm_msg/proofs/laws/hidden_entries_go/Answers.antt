use Rattle.lsm_msg.proofs.KeptEntries.{hidden_goes}
use Rattle.lsm_msg.proofs.laws.hidden_entries_go.Goals as goal

pub returns : goal.returns
returns c = hidden_goes
