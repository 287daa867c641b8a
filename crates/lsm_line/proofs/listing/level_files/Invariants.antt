-- the files that are found, and those that are left
use Rattle.std.proofs.Common.{◌≡◌, ◌++◌, drop, map}
use Rattle.lsm_line.specs.Lines.{level_files}
use Rattle.lsm_coord.specs.Contract.Shows.{place_of}
use Rattle.lsm_line.proofs.listing.level_files.Given as goal

abbrev pub invariant-loop-file : goal.invariant-loop-file
invariant-loop-file l = level_files l.level (map place_of l.files) ≡ l.numbers.items ++ level_files l.level (map place_of (drop l.file-index l.files))
