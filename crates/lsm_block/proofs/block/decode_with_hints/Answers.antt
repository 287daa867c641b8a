use Rattle.lsm_key.specs.declared.limits.TheConstants.{MAX_KEY_BYTES}
use Rattle.lsm_block.specs.Indexed.{block_entries}
use Rattle.lsm_block.proofs.BlockEntries.{indexed_block}
use Rattle.lsm_block.proofs.WiderBlocks.{block_wider}
use Rattle.lsm_block.proofs.block.decode_with_hints.Goals as goal

pub with_index-requires : goal.with_index-requires
with_index-requires c =
    let found = c.in_ok-index.ensures.ok in
    let is = c.as_slice.ensures in
    let wider = block_wider c.args.max_key MAX_KEY_BYTES c.requires c.args.bytes (block_entries c.args.bytes) (rw (← is) found.0) in
    indexed_block c.args.bytes c.in_ok-index.index c.know_bytes.ensures wider (rw (← is) found.1)
