-- What calls of a memtable do one after another (LevelDB, db_impl.cc: DBImpl::Write logs a batch and then applies it; to apply it first and take it out again is the store's own).
use Rattle.std.specs.Prelude.{◌≡◌, ℕ, ◌-◌, ◌<◌, List, ◌++◌, filter, nat_lt}
use Rattle.std.specs.List.Sorted.{IsPermutation}
use Rattle.lsm_key.specs.declared.entry.Entry.{Entry}
use Rattle.lsm_key.specs.declared.op.Op.{Op}
use Rattle.lsm_key.specs.Order.{IsAscending}
use Rattle.lsm_key.specs.Places.{entries_after}
use Rattle.lsm_mem.specs.Memtable.{last_sequence}

-- of entries that a batch joined, those from before its first sequence are the ones that it joined, in their order
abbrev pub AnUndoTakesBackABatch : Type 0
AnUndoTakesBackABatch =
    (before after : List Entry) (first : ℕ) (ops : List Op) → IsAscending before → IsAscending after → last_sequence before < first
    → IsPermutation (before ++ entries_after (first - 1) ops) after → filter (λ e. nat_lt e.ikey.seq first) after ≡ before
