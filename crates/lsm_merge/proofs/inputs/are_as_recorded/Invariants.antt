use Rattle.std.proofs.Common.{◌<◌, ℕ, get_or}
use Rattle.lsm_table.specs.Tables.{Opened}
use Rattle.lsm_edit.specs.declared.file.FileMeta.{FileMeta}
use Rattle.lsm_edit.specs.Served.{IsAsRecorded}
use Rattle.lsm_merge.proofs.inputs.are_as_recorded.Given as goal

abbrev pub invariant-loop-i : goal.invariant-loop-i
invariant-loop-i l = (k : ℕ) (d : FileMeta) (t : Opened) → k < l.i → IsAsRecorded (get_or l.files k d) (get_or l.tables k t)
