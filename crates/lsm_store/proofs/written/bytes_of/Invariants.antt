use Rattle.std.proofs.Common.{◌≡◌, take}
use Rattle.lsm_edit.specs.declared.file.FileMeta.{FileMeta}
use Rattle.lsm_store.specs.Stats.{saturated_sum}
use Rattle.lsm_store.proofs.written.bytes_of.Given as goal

abbrev pub invariant-loop-file : goal.invariant-loop-file
invariant-loop-file l = l.total ≡ saturated_sum (λ (f : FileMeta). f.bytes) (take l.file-index l.files)
