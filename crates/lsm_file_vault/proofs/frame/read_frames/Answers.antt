use Rattle.std.proofs.Common.{ℕ, List, Option, subst}
use Rattle.lsm_file_vault.specs.Frames.{TakesFrame}
use Rattle.lsm_file_vault.proofs.FrameReading.{frames_on}
use Rattle.lsm_file_vault.proofs.frame.read_frames.Goals as goal

pub loop-held-preserved : goal.loop-held-preserved
loop-held-preserved c =
    let taken = subst (λ (t : Option (List ℕ)). TakesFrame t c.loop-held.rest c.take_frame.new.rest) c.in-Some.is c.in_ok-bytes.ensures in
    rw c.in_ok-push.ensures.items (frames_on c.args.rest c.loop-held.held.items c.loop-held.rest c.in-Some.bytes c.take_frame.new.rest c.loop-held.invariant taken)
