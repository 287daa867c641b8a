use Rattle.std.proofs.Common.{◌≡◌, ◌+◌, List, Ok, length, ℕ}
use Rattle.lsm_table.specs.TableReading.{blocks_at, sum_at}
use Rattle.lsm_table.proofs.reading.read_blocks.Given as goal

abbrev pub invariant-loop-left : goal.invariant-loop-left
invariant-loop-left l =
    ((total : ℕ) × (after : List ℕ) × (sum : ℕ) × (sum_at l.fn.max_key l.left total l.rest ≡ Ok (sum, after)) × (total + length l.reader.rest ≡ sum))
    × (blocks_at l.fn.max_key l.fn.target l.fn.blocks l.fn.index l.fn.reader.entries l.fn.reader.rest ≡ blocks_at l.fn.max_key l.fn.target l.left l.rest l.reader.entries l.reader.rest)
    × (l.reader.limit ≡ l.fn.max_key)

abbrev pub decreases-loop-left : goal.decreases-loop-left
decreases-loop-left l = l.left
