use Rattle.std.proofs.Common.{List, sym, subst, inl, inr}
use Rattle.lru.specs.LruCache.{LruCache}
use Rattle.lsm_key.specs.declared.entry.Entry.{Entry}
use Rattle.lsm_cache.specs.declared.cache.BlockPlace.{BlockPlace}
use Rattle.lsm_cache.proofs.HeldBlocks.{Holds, either, held_put, place_same}
use Rattle.lsm_cache.proofs.cache.BlockCache.put.Goals as goal

pub returns : goal.returns
returns c number es holds right =
    elim (either c.put.result _ _ c.put.ensures.entries c.put.ensures.err) [
      | inl e ↦ held_put _ place_same number es _ _ c.args.place c.args.block e holds right
      | inr same ↦ subst (λ (x : LruCache BlockPlace (List Entry)). Holds number es x) (sym same) holds
    ]
