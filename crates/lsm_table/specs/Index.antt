-- A block's entry in the index (LevelDB, doc/table_format.md, index block: an entry for each data block, by its last key; the layout is the store's own).
use Rattle.std.specs.Prelude.{ℕ}
use Rattle.lsm_key.specs.declared.entry.InternalKey.{InternalKey}
use Rattle.lsm_table.specs.declared.index.IndexEntry.{IndexEntry}

-- the entry that was read: the block's length, and its last internal key
abbrev pub index_entry : IndexEntry → ℕ × InternalKey
index_entry i = (i.len, record { key = i.key.now; seq = i.seq; kind = i.kind })
