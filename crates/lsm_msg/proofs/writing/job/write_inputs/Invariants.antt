use Rattle.std.proofs.Common.{◌≡◌, ◌++◌, take, length}
use Rattle.std.specs.Int.{w16, to_be_bytes}
use Rattle.std.specs.List.{flat_map}
use Rattle.lsm_edit.specs.File.{file}
use Rattle.lsm_msg.proofs.writing.job.write_inputs.Given as goal

abbrev pub invariant-loop-file : goal.invariant-loop-file
invariant-loop-file l = l.out.items ≡ (l.fn.out.items ++ to_be_bytes w16 (length l.files)) ++ flat_map file (take l.file-index l.files)
