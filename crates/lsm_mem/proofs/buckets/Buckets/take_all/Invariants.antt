use Rattle.std.proofs.Common.{◌≡◌, ℕ, List}
use Rattle.lsm_key.specs.Places.{entries_after}
use Rattle.lsm_mem.specs.Chains.{Chain, AreChains, with_entries}
use Rattle.lsm_mem.proofs.buckets.Buckets.take_all.Given as goal

abbrev pub invariant-loop-op : goal.invariant-loop-op
invariant-loop-op l =
    (before : List Chain) (after : ℕ) → AreChains before → l.initial.self ≡ with_entries (entries_after after l.ops) before
    → l.self ≡ with_entries (entries_after after l.op-iterator.iter.rest.now) before
