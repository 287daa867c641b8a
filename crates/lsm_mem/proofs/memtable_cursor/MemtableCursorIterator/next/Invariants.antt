use Rattle.std.proofs.Common.{◌≡◌, ◌++◌, length}
use Rattle.lsm_mem.specs.Chains.{entries_in}
use Rattle.lsm_mem.specs.Buckets.{chains_of_buckets}
use Rattle.lsm_mem.proofs.memtable_cursor.MemtableCursorIterator.next.Given as goal

abbrev pub invariant-loop-entry : goal.invariant-loop-entry
invariant-loop-entry l = l.self-inside.current ++ entries_in (chains_of_buckets l.self-inside.later) ≡ l.fn.self

abbrev pub decreases-loop-entry : goal.decreases-loop-entry
decreases-loop-entry l = length l.self-inside.later
