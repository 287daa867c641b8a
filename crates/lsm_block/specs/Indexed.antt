-- What a walk over the bytes of a block finds.
use Rattle.std.specs.Prelude.{◌≡◌, ℕ, ◌<◌, ◌≤◌, List, [], ◌∷◌, ◌++◌, length, take, MatchOption, Result, Ok, Err}
use Rattle.lsm_key.specs.declared.entry.Entry.{Entry}
use Rattle.lsm_key.specs.declared.limits.TheConstants.{MAX_KEY_BYTES}
use Rattle.lsm_block.specs.declared.indexing.Indexed.{Indexed}
use Rattle.lsm_block.specs.declared.fault.BlockFault.{BlockFault}
use Rattle.lsm_block.specs.Blocks.{entries, IsBlock}
use Rattle.lsm_block.specs.BlockReading.{last_of, read_block}
use Rattle.lsm_block.specs.Fences.{AreFences}
use Rattle.lsm_block.specs.Spans.{IsSpan}

-- the last entry is of this key and sequence, and of none the key is empty
abbrev pub IsLastKey : List Entry → List ℕ → ℕ → Type 0
IsLastKey es key seq = MatchOption (last_of es) (key ≡ []) (λ e. (e.ikey.key ≡ key) × (e.ikey.seq ≡ seq))

-- the last entry begins at the place
pub record IsLastAt (es : List Entry) (place : ℕ) : Type 0 where
  pub before : List Entry
  pub last : Entry
  pub parts : es ≡ before ++ last ∷ []
  pub begins : place ≡ length (entries before)

-- fences of the entries, which may be none, their count, and where the last one begins
pub record AreIndexed (es : List Entry) (found : Indexed) : Type 0 where
  pub fenced : AreFences found.fences.front es found.fences.prefixes.items found.fences.places.items
  pub counted : found.count ≡ length es
  pub ends : 0 < length es → IsLastAt es found.last

-- the entries that were read, none if there was a fault
abbrev pub entries_read : Result (List Entry) BlockFault → List Entry
entries_read (Ok es) = es
entries_read (Err f) = []

-- the entries of the block that the bytes are, whatever the limit by which they were read as one
abbrev pub block_entries : List ℕ → List Entry
block_entries bytes = entries_read (read_block MAX_KEY_BYTES bytes)

-- the bytes are a block, and its index was found
pub record IsIndexedBlock (bytes : List ℕ) (found : Indexed) : Type 0 where
  pub read : read_block MAX_KEY_BYTES bytes ≡ Ok (block_entries bytes)
  pub block : IsBlock MAX_KEY_BYTES bytes (block_entries bytes)
  pub index : AreIndexed (block_entries bytes) found

-- the entries of the first so many bytes
abbrev pub entries_before : List ℕ → ℕ → List Entry
entries_before bytes read = block_entries (take read bytes)

-- the first so many bytes are a span, maybe of none, and its index was found
pub record IsReadTo (bytes : List ℕ) (read : ℕ) (found : Indexed) : Type 0 where
  pub within : read ≤ length bytes
  pub span : IsSpan (take read bytes) (entries_before bytes read)
  pub index : AreIndexed (entries_before bytes read) found
