use Rattle.std.proofs.Common.{◌≡◌, ◌-◌, take, drop}
use Rattle.std.specs.List.{flat_map}
use Rattle.lsm_key.specs.Places.{entries_after}
use Rattle.lsm_edit.specs.LogRecord.{op_bytes}
use Rattle.lsm_mem.specs.Chains.{with_entries}
use Rattle.lsm_mem.proofs.buckets.Buckets.put_each.Given as goal

abbrev pub invariant-loop-done : goal.invariant-loop-done
invariant-loop-done l = (l.self ≡ with_entries (entries_after (l.first - 1) (take l.done l.ops)) l.fn.self) × (drop l.at l.logged ≡ flat_map op_bytes (drop l.done l.ops))
