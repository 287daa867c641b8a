use Rattle.std.proofs.Common.{◌≡◌, length}
use Rattle.lsm_edit.specs.Version.{has_overlap}
use Rattle.lsm_edit.proofs.version.overlaps.Given as goal

abbrev pub invariant-loop-file : goal.invariant-loop-file
invariant-loop-file l = has_overlap l.files ≡ has_overlap l.rest

abbrev pub decreases-loop-file : goal.decreases-loop-file
decreases-loop-file l = length l.rest
