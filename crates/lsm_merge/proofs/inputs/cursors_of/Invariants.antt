use Rattle.std.proofs.Common.{◌≡◌, take}
use Rattle.lsm_merge.specs.Inputs.{lists_of}
use Rattle.lsm_merge.proofs.inputs.cursors_of.Given as goal

abbrev pub invariant-loop-table : goal.invariant-loop-table
invariant-loop-table l = l.cursors.items ≡ lists_of (take l.table-index l.tables)
