use Rattle.std.proofs.Common.{◌≡◌, ◌++◌, ℕ, List, length, Option, Some, None, reverse}
use Rattle.lsm_mem.specs.Chains.{entries_of_keys}
use Rattle.lsm_mem.proofs.bucket_cursor.BucketCursorIterator.next.Given as goal

-- how many keys are left
abbrev count_of : {X : Type 0} → Option (List X) → ℕ
count_of None = 0
count_of (Some keys) = length keys

abbrev pub invariant-loop-newest : goal.invariant-loop-newest
invariant-loop-newest l = reverse l.self-inside.versions.now ++ entries_of_keys l.self-inside.keys ≡ l.fn.self

abbrev pub decreases-loop-newest : goal.decreases-loop-newest
decreases-loop-newest l = count_of l.self-inside.keys
