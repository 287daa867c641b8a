use Rattle.lsm_file_vault.proofs.TornFrames.{torn_front}
use Rattle.lsm_file_vault.proofs.laws.a_frame_cut_short_is_torn.Goals as goal

pub returns : goal.returns
returns c = torn_front
