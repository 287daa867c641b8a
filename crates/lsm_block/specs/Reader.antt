-- What a reader of blocks has read (LevelDB, table/two_level_iterator.cc: the blocks of a table one after another, as one list of entries).
use Rattle.std.specs.Prelude.{ℕ, List}
use Rattle.lsm_key.specs.declared.entry.Entry.{Entry}

-- the value of a reader: the most bytes of a key, the entries of the blocks that it has read, and the bytes after them
pub record ReaderValue : Type 0 where
  pub limit : ℕ
  pub entries : List Entry
  pub rest : List ℕ
