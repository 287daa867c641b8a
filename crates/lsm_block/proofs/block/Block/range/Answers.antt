use Rattle.lsm_block.proofs.BlockEntries.{fences_of}
use Rattle.lsm_block.proofs.block.Block.range.Goals as goal

pub entries_between-requires-clause-fenced : goal.entries_between-requires-clause-fenced
entries_between-requires-clause-fenced c es span =
    rw c.deref.ensures (fences_of c.self.inside.bytes c.self.inside.index.value c.self.invariant es span)
