use Rattle.lsm_file_vault.proofs.StoppedAppends.{stopped}
use Rattle.lsm_file_vault.proofs.laws.a_stop_loses_no_edit.Goals as goal

pub returns : goal.returns
returns c = stopped
