-- A span: entries in order as bytes without a gap, such as a block, whole entries of one, or none (LevelDB, doc/table_format.md, data blocks; the word is the store's own).
use Rattle.std.specs.Prelude.{◌≡◌, ℕ, List}
use Rattle.lsm_key.specs.declared.entry.Entry.{Entry}
use Rattle.lsm_block.specs.Blocks.{entries, AreEntries}

-- the bytes are the span of these entries
pub record IsSpan (bytes : List ℕ) (es : List Entry) : Type 0 where
  pub sound : AreEntries es
  pub spelled : bytes ≡ entries es

-- bytes that are known to be a span
abbrev pub IsSomeSpan : List ℕ → Type 0
IsSomeSpan bytes = (es : List Entry) × IsSpan bytes es
