use Rattle.lsm_file_vault.proofs.FrameReading.{frame_again}
use Rattle.lsm_file_vault.proofs.laws.a_written_frame_is_read.Goals as goal

pub returns : goal.returns
returns c = frame_again c.args.bytes.now c.args.rest.now c.requires (rw (← c.checksum_of-checksum.ensures) c.checksum_of-checksum.type_inv)
