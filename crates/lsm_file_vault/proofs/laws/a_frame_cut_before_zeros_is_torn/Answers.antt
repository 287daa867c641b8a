use Rattle.lsm_file_vault.proofs.TornFrames.{torn_before_zeros}
use Rattle.lsm_file_vault.proofs.laws.a_frame_cut_before_zeros_is_torn.Goals as goal

pub returns : goal.returns
returns c = torn_before_zeros
