-- Going through the entries of a block (LevelDB, include/leveldb/iterator.h: it stands at one entry, and Next moves to the one after it).
use Rattle.std.specs.Prelude.{◌≡◌, ℕ, ◌≤◌, List, [], ◌∷◌, length, drop, MatchOption, Option}
use Rattle.lsm_key.specs.declared.entry.Entry.{Entry}
use Rattle.lsm_block.specs.Indexed.{block_entries}
use Rattle.lsm_block.specs.Spans.{IsSpan}

-- the entries of a span from a place in its bytes on
abbrev pub entries_from : List ℕ → ℕ → List Entry
entries_from bytes place = block_entries (drop place bytes)

-- an entry begins at the place, or it is the end
pub record IsPlaceIn (bytes : List ℕ) (place : ℕ) : Type 0 where
  pub within : place ≤ length bytes
  pub span : IsSpan (drop place bytes) (entries_from bytes place)

-- a call of `next` gives the first entry that is left, if there is one
abbrev pub GivesNext : List Entry → Option Entry → List Entry → Type 0
GivesNext before r after = MatchOption r ((before ≡ []) × (after ≡ before)) (λ e. before ≡ e ∷ after)
