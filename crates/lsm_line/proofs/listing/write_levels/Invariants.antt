-- what is added, and what is left to add
use Rattle.std.proofs.Common.{◌≡◌, ◌++◌, drop, map}
use Rattle.lsm_line.specs.Lines.{levels_text}
use Rattle.lsm_coord.specs.Contract.Shows.{place_of}
use Rattle.lsm_line.proofs.listing.write_levels.Given as goal

abbrev pub invariant-loop-level : goal.invariant-loop-level
invariant-loop-level l = l.fn.out.items ++ levels_text (map place_of l.files) l.levels ≡ l.out.items ++ levels_text (map place_of l.files) (drop l.level-index l.levels)
