-- what is added, and what is left to add
use Rattle.std.proofs.Common.{◌≡◌, ◌++◌, drop}
use Rattle.std.specs.List.{flat_map}
use Rattle.lsm_resp.specs.Wire.{bulk_or_null_bytes}
use Rattle.lsm_resp.proofs.reply.write_array.Given as goal

abbrev pub invariant-loop-value : goal.invariant-loop-value
invariant-loop-value l = l.initial.out.items ++ flat_map bulk_or_null_bytes l.values ≡ l.out.items ++ flat_map bulk_or_null_bytes (drop l.value-index l.values)
