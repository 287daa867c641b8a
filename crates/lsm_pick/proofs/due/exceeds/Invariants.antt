use Rattle.std.proofs.Common.{◌≡◌, ◌≤◌, take}
use Rattle.std.specs.List.{sum_by}
use Rattle.lsm_edit.specs.declared.file.FileMeta.{FileMeta}
use Rattle.lsm_pick.specs.Due.{of_level}
use Rattle.lsm_pick.proofs.due.exceeds.Given as goal

abbrev pub invariant-loop-file : goal.invariant-loop-file
invariant-loop-file l = (l.total ≡ sum_by (λ (f : FileMeta). f.bytes) (of_level l.level (take l.file-index l.files))) × (l.total ≤ l.most)
