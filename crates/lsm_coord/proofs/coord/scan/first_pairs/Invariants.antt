-- entries were taken in order so far
use Rattle.std.proofs.Common.{length}
use Rattle.std.specs.Option.{option_map}
use Rattle.lsm_key.specs.Places.{all_entries}
use Rattle.lsm_key.specs.Visible.{lent_entry}
use Rattle.lsm_coord.specs.Inner.Sources.{source_lists}
use Rattle.lsm_coord.proofs.FirstPairs.{IsScanned}
use Rattle.lsm_coord.proofs.coord.scan.first_pairs.Given as goal

abbrev pub invariant-loop-hi : goal.invariant-loop-hi
invariant-loop-hi l = IsScanned l.hi l.point l.limit (all_entries (source_lists l.fn.heads)) (source_lists l.left) l.pairs.items (option_map lent_entry l.before)

abbrev pub decreases-loop-hi : goal.decreases-loop-hi
decreases-loop-hi l = length (all_entries (source_lists l.left))
