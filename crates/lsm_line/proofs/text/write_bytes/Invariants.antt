-- what is added, and what is left to add
use Rattle.std.proofs.Common.{◌≡◌, ◌++◌, drop}
use Rattle.std.specs.List.{flat_map}
use Rattle.lsm_line.specs.Lines.{byte_text}
use Rattle.lsm_line.proofs.text.write_bytes.Given as goal

abbrev pub invariant-loop-byte : goal.invariant-loop-byte
invariant-loop-byte l = l.fn.out.items ++ flat_map byte_text l.bytes ≡ l.out.items ++ flat_map byte_text (drop l.byte-index l.bytes)
