use Rattle.std.proofs.Common.{sym, ap, ◌∙◌}
use Rattle.lsm_block.specs.BlockReading.{entry_at}
use Rattle.lsm_block.specs.Indexed.{block_entries}
use Rattle.lsm_block.proofs.BlockEntries.{last_read}
use Rattle.lsm_block.proofs.block.Block.last.Goals as goal

pub returns-in-Ok : goal.returns-in-Ok
returns-in-Ok c =
    let bytes = c.self.inside.bytes in
    rw (← c.self.view_is) (last_read bytes (block_entries bytes) c.deref.result.now.last c.in-Ok.entry _ c.self.invariant.block (rw c.deref.ensures (c.self.invariant.index.ends c.self.invariant.block.some)) (ap entry_at (sym c.in_ok-rest.ensures.ok) ∙ c.in-Ok.ensures))
