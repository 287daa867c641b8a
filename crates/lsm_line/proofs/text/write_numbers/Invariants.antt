-- what is added, and what is left to add
use Rattle.std.proofs.Common.{◌≡◌, ◌++◌, drop}
use Rattle.std.specs.List.{flat_map}
use Rattle.lsm_line.proofs.JoinedText.{after_comma}
use Rattle.lsm_line.proofs.text.write_numbers.Given as goal

abbrev pub invariant-loop-number : goal.invariant-loop-number
invariant-loop-number l = l.initial.out.items ++ flat_map after_comma l.others ≡ l.out.items ++ flat_map after_comma (drop l.number-index l.others)
