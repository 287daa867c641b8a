use Rattle.std.proofs.Common.{◌≡◌, ◌++◌, take, length}
use Rattle.std.specs.Int.{w32, to_be_bytes}
use Rattle.std.specs.List.{flat_map}
use Rattle.lsm_msg.specs.Messages.{sized}
use Rattle.lsm_msg.proofs.writing.result.write_tables.Given as goal

abbrev pub invariant-loop-table : goal.invariant-loop-table
invariant-loop-table l = l.out.items ≡ (l.fn.out.items ++ to_be_bytes w32 (length l.ts)) ++ flat_map sized (take l.table-index l.ts)
