-- Ranges of keys, prepared for a binary search (LevelDB, version_set.cc, SomeFileOverlapsRange: a binary search among ranges that are in order; the pass of the code).
use Rattle.std.specs.Prelude.{◌≡◌, ℕ, ◌≤◌, ◌<◌, true, List, [], ◌∷◌, length, slice_index_or, if◌then◌else◌}
use Rattle.lsm_key.specs.Order.{key_le}
use Rattle.lsm_key.specs.declared.range.KeyRange.{KeyRange}

-- the least keys ascend
abbrev pub IsByLeast : List KeyRange → Type 0
IsByLeast ranges = (i j : ℕ) (d : KeyRange) → i ≤ j → j < length ranges → key_le (slice_index_or ranges i d).lo (slice_index_or ranges j d).lo ≡ true

-- the greatest keys ascend
abbrev pub IsByGreatest : List KeyRange → Type 0
IsByGreatest ranges = (i j : ℕ) (d : KeyRange) → i ≤ j → j < length ranges → key_le (slice_index_or ranges i d).hi (slice_index_or ranges j d).hi ≡ true

-- the greater of two keys
abbrev pub greater : List ℕ → List ℕ → List ℕ
greater a b = if key_le b a then a else b

-- each end raised to the maximum of the ends so far and a key
abbrev pub with_raised_ends : List ℕ → List KeyRange → List KeyRange
with_raised_ends reach [] = []
with_raised_ends reach (r ∷ rs) = record { lo = r.lo; hi = greater reach r.hi } ∷ with_raised_ends (greater reach r.hi) rs

-- ranges in which a binary search finds whether a key is in one
pub record AreReaching (ranges : List KeyRange) : Type 0 where
  pub least : IsByLeast ranges
  pub greatest : IsByGreatest ranges
