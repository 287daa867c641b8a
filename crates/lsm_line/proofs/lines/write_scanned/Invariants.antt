-- what is added, and what is left to add
use Rattle.std.proofs.Common.{◌≡◌, ◌++◌, drop}
use Rattle.std.specs.List.{flat_map}
use Rattle.lsm_line.specs.Lines.{pair_text}
use Rattle.lsm_line.proofs.lines.write_scanned.Given as goal

abbrev pub invariant-loop-pair : goal.invariant-loop-pair
invariant-loop-pair l = l.initial.out.items ++ flat_map pair_text l.pairs ≡ l.out.items ++ flat_map pair_text (drop l.pair-index l.pairs)
