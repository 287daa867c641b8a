-- Each list that is left has room.
use Rattle.std.proofs.Common.{◌≡◌, ◌+◌, ◌≤◌, ◌++◌, length, vec_len, vec_capacity}
use Rattle.std.specs.Vec.Iter.{into_iter_items}
use Rattle.lsm_nodes.proofs.shared.tally.move_all.Given as goal

abbrev pub invariant-loop-records : goal.invariant-loop-records
invariant-loop-records l =
    (vec_len l.to + length (into_iter_items l.records-iterator) ≤ vec_capacity l.to)
    × (l.to.items ++ into_iter_items l.records-iterator ≡ l.initial.to.items ++ into_iter_items l.initial.records-iterator)
