use Rattle.std.proofs.Common.{take}
use Rattle.lsm_versions.specs.Manifest.{Folds}
use Rattle.lsm_versions.proofs.opening.replay.Given as goal

abbrev pub invariant-loop-text : goal.invariant-loop-text
invariant-loop-text l = Folds (take l.text-index l.edits) l.version
