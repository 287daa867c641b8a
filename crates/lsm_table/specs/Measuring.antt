-- What is known of the blocks that entries are cut into while they still come (LevelDB, table/block_builder.h, CurrentSizeEstimate: the size that a block will have).
use Rattle.std.specs.Prelude.{◌≡◌, ℕ, ◌+◌, ◌<◌, ◌≤◌, List, [], ◌∷◌, ◌++◌, length}
use Rattle.std.specs.List.{flat_map}
use Rattle.lsm_key.specs.declared.entry.Entry.{Entry}
use Rattle.lsm_block.specs.Blocks.{entries}
use Rattle.lsm_block.specs.BlockReading.{last_of}
use Rattle.lsm_table.specs.declared.measuring.Measure.{Measure}
use Rattle.lsm_table.specs.Cuts.{cut_after}
use Rattle.lsm_table.specs.Tables.{index, key_of_entry, version_of_entries}

-- the entries are cut into these blocks and a last one, which may take more
pub record IsCutInto (target : ℕ) (es : List Entry) (closed : List (List Entry)) (last : List Entry) : Type 0 where
  pub cut : cut_after target [] es ≡ closed ++ last ∷ []
  pub ends : last_of last ≡ last_of es

-- what is counted and the parts of a measure are no more than the weight of its entries
pub record IsWithinWeight (m : Measure) : Type 0 where
  pub closed : m.closed ≤ m.index
  pub index : m.index + m.last ≤ m.weight
  pub key : m.last_key ≤ m.last
  pub some : 0 < m.last → 14 + m.last_key ≤ m.last

-- the measure of these entries
pub record IsMeasured (target : ℕ) (es : List Entry) (m : Measure) : Type 0 where
  pub closed : List (List Entry)
  pub last : List Entry
  pub parts : IsCutInto target es closed last
  pub counted : m.closed ≡ length closed
  pub indexed : m.index ≡ length (flat_map index closed)
  pub sized : m.last ≡ length (entries last)
  pub keyed : m.last_key ≡ length (key_of_entry (last_of es))
  pub weighed : m.weight ≡ length (entries es)
  pub versioned : m.version ≡ version_of_entries es
  pub light : IsWithinWeight m

-- the blocks before the last one are written after a front, and the last one has so many bytes
pub record IndexSoFar (target : ℕ) (es : List Entry) (front out : List ℕ) (len : ℕ) : Type 0 where
  pub closed : List (List Entry)
  pub last : List Entry
  pub parts : IsCutInto target es closed last
  pub written : out ≡ front ++ flat_map index closed
  pub sized : len ≡ length (entries last)
  pub light : len ≤ length (entries es)
