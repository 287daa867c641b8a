use Rattle.std.proofs.Common.{◌≡◌, ◌+◌, ◌≤◌, length, vec_capacity}
use Rattle.lsm_edit.specs.Served.{placed_of, put_all}
use Rattle.lsm_edit.proofs.served.put_each.Given as goal

abbrev pub invariant-loop-table : goal.invariant-loop-table
invariant-loop-table l =
    (length l.files.items ≡ length l.tables.items)
    × (put_all (placed_of l.fn.files.items l.fn.tables.items) l.fn.places.items ≡ put_all (placed_of l.files.items l.tables.items) l.places.items)
    × (length l.places.items + length l.tables.items ≤ vec_capacity l.places)

abbrev pub decreases-loop-table : goal.decreases-loop-table
decreases-loop-table l = length l.tables.items
