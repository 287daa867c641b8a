use Rattle.lsm_block.proofs.BlockBeginnings.{block_cut, shorter_block}
use Rattle.lsm_block.proofs.laws.a_beginning_of_a_block_is_shorter_or_truncated.Goals as goal

pub returns-clause-shorter : goal.returns-clause-shorter
returns-clause-shorter c = shorter_block

pub returns-clause-truncated : goal.returns-clause-truncated
returns-clause-truncated c = λ limit bytes es n low. block_cut limit low bytes es n
