-- What a cache of blocks holds (LevelDB, table/table.cc, BlockReader: a cached block is found by the file's id and the block's offset).
use Rattle.std.specs.Prelude.{◌≡◌, ℕ, List, [], Contains}
use Rattle.lsm_key.specs.declared.entry.Entry.{Entry}
use Rattle.lsm_block.specs.Handles.{IsPartAt}
use Rattle.lsm_cache.specs.declared.cache.BlockCache.{BlockCache}
use Rattle.lsm_cache.specs.declared.cache.BlockPlace.{BlockPlace}

-- each block that is held under the file's number stands at its place among these entries
abbrev pub HoldsBlocks : ℕ → List Entry → BlockCache → Type 0
HoldsBlocks number es cache = (place : BlockPlace) (block : List Entry) → Contains cache.blocks.entries (place, block) → place.file ≡ number → IsPartAt es place.handle block

-- what is held under any number stays right, if the file under this one has these entries
abbrev pub KeepsBlocks : ℕ → List Entry → BlockCache → BlockCache → Type 0
KeepsBlocks number es old new = (n : ℕ) (list : List Entry) → HoldsBlocks n list old → (n ≡ number → list ≡ es) → HoldsBlocks n list new

-- no block is held
abbrev pub HoldsNone : BlockCache → Type 0
HoldsNone cache = cache.blocks.entries ≡ []
