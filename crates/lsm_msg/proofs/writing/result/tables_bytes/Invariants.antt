use Rattle.std.proofs.Common.{◌≡◌, take}
use Rattle.std.specs.List.{flat_map}
use Rattle.lsm_edit.specs.File.{size}
use Rattle.lsm_msg.specs.Messages.{sized}
use Rattle.lsm_msg.proofs.writing.result.tables_bytes.Given as goal

abbrev pub invariant-loop-table : goal.invariant-loop-table
invariant-loop-table l = l.total ≡ size (flat_map sized (take l.table-index l.ts))
