use Rattle.std.proofs.Common.{sym, ap, ◌∙◌}
use Rattle.lsm_block.specs.BlockReading.{entry_at}
use Rattle.lsm_block.specs.Indexed.{block_entries}
use Rattle.lsm_block.proofs.BlockEntries.{first_read}
use Rattle.lsm_block.proofs.block.Block.first.Goals as goal

pub returns-in-Ok : goal.returns-in-Ok
returns-in-Ok c = rw (← c.self.view_is) (first_read c.self.inside.bytes (block_entries c.self.inside.bytes) c.in-Ok.entry _ c.self.invariant.block (ap entry_at (sym c.in_ok-rest.ensures.cases) ∙ c.in-Ok.ensures))
