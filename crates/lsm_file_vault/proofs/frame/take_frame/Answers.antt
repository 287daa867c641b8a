use Rattle.std.proofs.Common.{◌∙◌, sym, ap}
use Rattle.lsm_file_vault.specs.Frames.{frame_at}
use Rattle.lsm_file_vault.proofs.FrameReading.{frame_takes}
use Rattle.lsm_file_vault.proofs.frame.take_frame.Goals as goal

pub returns-in-Ok : goal.returns-in-Ok
returns-in-Ok c = frame_takes c.args.rest.now (c.in-Ok.bytes, c.read_frame.new.rest) c.know_bytes.ensures (ap frame_at (sym c.in_ok-after.ensures.cases) ∙ c.in-Ok.ensures)
