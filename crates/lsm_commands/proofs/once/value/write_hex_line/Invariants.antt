-- what is added, and what is left to add
use Rattle.std.proofs.Common.{◌≡◌, ◌++◌, drop}
use Rattle.std.specs.List.{flat_map}
use Rattle.lsm_commands.specs.Once.{hex_text}
use Rattle.lsm_commands.proofs.once.value.write_hex_line.Given as goal

abbrev pub invariant-loop-byte : goal.invariant-loop-byte
invariant-loop-byte l = l.fn.out.items ++ flat_map hex_text l.bytes ≡ l.out.items ++ flat_map hex_text (drop l.byte-index l.bytes)
