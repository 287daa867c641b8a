use Rattle.lsm_block.proofs.WiderBlocks.{block_wider}
use Rattle.lsm_block.proofs.laws.a_block_of_short_keys_is_a_block.Goals as goal

pub returns : goal.returns
returns c = λ low high bytes es le. block_wider low high le bytes es
