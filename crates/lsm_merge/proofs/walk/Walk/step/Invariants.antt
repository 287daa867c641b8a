use Rattle.std.proofs.Common.{◌≡◌, ◌≤◌, List, [], None}
use Rattle.std.specs.Option.{option_map}
use Rattle.lsm_key.specs.declared.entry.Entry.{Entry}
use Rattle.lsm_key.specs.Visible.{lent_entry}
use Rattle.lsm_merge.specs.Walks.{Took, left_to_merge}
use Rattle.lsm_merge.proofs.walk.Walk.step.Given as goal

abbrev pub invariant-loop-found : goal.invariant-loop-found
invariant-loop-found l =
    let w = l.self-inside in
    ((taken : List Entry) × Took l.fn.self taken [] (record { heads = w.heads; before = option_map lent_entry w.before; points = w.points.now; deeper = w.deeper; refused = w.refused })) × (w.refused ≡ None) × (l.fn.self.refused ≡ None) × (left_to_merge w.heads ≤ left_to_merge l.fn.self.heads)

abbrev pub decreases-loop-found : goal.decreases-loop-found
decreases-loop-found l = left_to_merge l.self-inside.heads
