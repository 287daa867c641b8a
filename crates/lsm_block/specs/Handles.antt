-- Some entries of a block, by where they stand in its bytes (LevelDB, doc/table_format.md, BlockHandle: an offset and a size).
use Rattle.std.specs.Prelude.{◌≡◌, ℕ, ◌<◌, List, ◌++◌, length}
use Rattle.lsm_key.specs.declared.entry.Entry.{Entry}
use Rattle.lsm_key.specs.Visible.{visible}
use Rattle.lsm_block.specs.declared.handle.BlockHandle.{BlockHandle}
use Rattle.lsm_block.specs.Blocks.{entries}

-- the part begins at the offset, in bytes, and has as many bytes as the size says
pub record IsPartAt (es : List Entry) (handle : BlockHandle) (part : List Entry) : Type 0 where
  pub before : List Entry
  pub after : List Entry
  pub parts : es ≡ before ++ (part ++ after)
  pub begins : handle.offset ≡ length (entries before)
  pub sized : handle.size ≡ length (entries part)

-- some entries stand there
pub record IsHandle (es : List Entry) (handle : BlockHandle) : Type 0 where
  pub part : List Entry
  pub some : 0 < length part
  pub at : IsPartAt es handle part

-- and they show of the key what all show
pub record IsHandleFor (es : List Entry) (key : List ℕ) (handle : BlockHandle) : Type 0 where
  pub is : IsHandle es handle
  pub shows : (at : ℕ) → visible is.part key at ≡ visible es key at
