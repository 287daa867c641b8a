use Rattle.std.proofs.Common.{◌≡◌, take}
use Rattle.std.specs.List.{flat_map}
use Rattle.lsm_edit.specs.File.{file, size}
use Rattle.lsm_edit.proofs.file.files_bytes.Given as goal

abbrev pub invariant-loop-file : goal.invariant-loop-file
invariant-loop-file l = l.total ≡ size (flat_map file (take l.file-index l.files))
