-- the frames that were taken, and what is left
use Rattle.std.proofs.Common.{◌≡◌, ◌++◌, length}
use Rattle.lsm_file_vault.specs.Frames.{frames}
use Rattle.lsm_file_vault.proofs.frame.read_frames.Given as goal

abbrev pub invariant-loop-held : goal.invariant-loop-held
invariant-loop-held l = l.fn.rest ≡ frames l.held.items ++ l.rest

abbrev pub decreases-loop-held : goal.decreases-loop-held
decreases-loop-held l = length l.rest
