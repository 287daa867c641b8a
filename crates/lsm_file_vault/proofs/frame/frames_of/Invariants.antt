-- the frames so far
use Rattle.std.proofs.Common.{◌≡◌, take}
use Rattle.lsm_file_vault.specs.Frames.{frames}
use Rattle.lsm_file_vault.proofs.frame.frames_of.Given as goal

abbrev pub invariant-loop-bytes : goal.invariant-loop-bytes
invariant-loop-bytes l = l.framed.items ≡ frames (take l.bytes-index l.held)
