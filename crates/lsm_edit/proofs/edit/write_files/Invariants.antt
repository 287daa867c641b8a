use Rattle.std.proofs.Common.{◌≡◌, ◌++◌, take, length}
use Rattle.std.specs.Int.{w32, to_be_bytes}
use Rattle.std.specs.List.{flat_map}
use Rattle.lsm_edit.specs.File.{file}
use Rattle.lsm_edit.proofs.edit.write_files.Given as goal

abbrev pub invariant-loop-file : goal.invariant-loop-file
invariant-loop-file l = l.out.items ≡ (l.fn.out.items ++ to_be_bytes w32 (length l.files)) ++ flat_map file (take l.file-index l.files)
