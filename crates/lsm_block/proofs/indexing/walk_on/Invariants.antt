use Rattle.std.proofs.Common.{List, ◌+◌, length, drop}
use Rattle.lsm_key.specs.declared.entry.Entry.{Entry}
use Rattle.lsm_block.specs.BlockReading.{entries_at}
use Rattle.lsm_block.specs.Indexed.{entries_before}
use Rattle.lsm_block.proofs.IndexedSoFar.{Walked}
use Rattle.lsm_block.proofs.indexing.walk_on.Given as goal

abbrev pub invariant-loop-found : goal.invariant-loop-found
invariant-loop-found l =
    let left = drop l.fn.begin l.fn.bytes in
    let found = l.found in
    (es : List Entry) × Walked l.fn.max_key (entries_at l.fn.max_key (length left + 1) (entries_before l.fn.bytes l.fn.begin) left) l.fn.bytes es l.rest l.key l.seq found.fences.front found.fences.prefixes.items found.fences.places.items found.count

abbrev pub decreases-loop-found : goal.decreases-loop-found
decreases-loop-found l = length l.rest
