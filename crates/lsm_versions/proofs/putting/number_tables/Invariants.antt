use Rattle.std.proofs.Common.{◌≡◌, ◌++◌, length}
use Rattle.lsm_edit.specs.Served.{AreAsRecorded, placed_of}
use Rattle.lsm_versions.specs.Putting.{numbered_tables}
use Rattle.lsm_versions.proofs.putting.number_tables.Given as goal

abbrev pub invariant-loop-table : goal.invariant-loop-table
invariant-loop-table l =
    AreAsRecorded l.next_files l.next_tables
    × (l.numbered.items ++ numbered_tables (placed_of l.next_files l.next_tables) ≡ numbered_tables (placed_of l.fn.files l.fn.tables))

abbrev pub decreases-loop-table : goal.decreases-loop-table
decreases-loop-table l = length l.next_tables
