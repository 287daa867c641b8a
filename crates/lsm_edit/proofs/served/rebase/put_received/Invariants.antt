use Rattle.std.proofs.Common.{◌≡◌, ◌+◌, ◌≤◌, length, vec_capacity}
use Rattle.lsm_edit.specs.Served.{put_all}
use Rattle.lsm_edit.proofs.served.rebase.put_received.Given as goal

abbrev pub invariant-loop-placed : goal.invariant-loop-placed
invariant-loop-placed l =
    (put_all l.fn.received.items l.fn.places.items ≡ put_all l.received.items l.places.items)
    × (length l.places.items + length l.received.items ≤ vec_capacity l.places)

abbrev pub decreases-loop-placed : goal.decreases-loop-placed
decreases-loop-placed l = length l.received.items
