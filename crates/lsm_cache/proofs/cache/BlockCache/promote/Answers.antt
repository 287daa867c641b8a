use Rattle.lsm_cache.proofs.HeldBlocks.{held_promoted}
use Rattle.lsm_cache.proofs.cache.BlockCache.promote.Goals as goal

pub returns : goal.returns
returns c number es holds = held_promoted _ number es _ _ c.promote.ensures.entries holds
