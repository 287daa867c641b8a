-- What a merge keeps (LevelDB, implementation notes: compactions; db_impl.cc, DoCompactionWork; version_set.cc, IsBaseLevelForKey).
use Rattle.std.specs.Prelude.{◌≡◌, ◌↔◌, ◌⊎◌, ℕ, Bool, true, false, not, ◌&&◌, List, Some, nat_le}
use Rattle.std.specs.List.{list_all, list_any}
use Rattle.lsm_key.specs.declared.entry.Entry.{Entry}
use Rattle.lsm_key.specs.declared.entry.Kind.{Kind}
use Rattle.lsm_key.specs.declared.entry.Kind.TheVariants.{Delete, Put}
use Rattle.lsm_key.specs.Sets.{IsIn}
use Rattle.lsm_key.specs.Visible.{visible, newest}
use Rattle.lsm_key.specs.KeyRanges.{in_closed_range}
use Rattle.lsm_key.specs.declared.range.KeyRange.{KeyRange}

-- some read needs the entry: the latest one, or one at a point
abbrev pub IsNeeded : List Entry → List ℕ → Entry → Type 0
IsNeeded inputs points e = (newest inputs e.ikey.key ≡ Some e) ⊎ ((p : ℕ) × IsIn p points × (visible inputs e.ikey.key p ≡ Some e))

-- the kind is that of a deletion
abbrev pub is_deletion : Kind → Bool
is_deletion Delete = true
is_deletion Put = false

-- the sequence is at most every point; with no point, any sequence is
abbrev pub is_at_most_all : List ℕ → ℕ → Bool
is_at_most_all points seq = list_all (λ p. nat_le seq p) points

-- the key is in one of the ranges, both ends of which are included
abbrev pub is_in_ranges : List KeyRange → List ℕ → Bool
is_in_ranges ranges key = list_any (λ r. in_closed_range r.lo r.hi key) ranges

-- a deletion that hides nothing any more: no snapshot is older than it, and no file below the output level may have its key
abbrev pub may_go : List ℕ → List KeyRange → Entry → Bool
may_go points deeper e = is_deletion e.ikey.kind && (is_at_most_all points e.ikey.seq && not (is_in_ranges deeper e.ikey.key))

-- a merge keeps the entry: some read needs it, and it is no deletion that hides nothing any more
pub record IsKept (inputs : List Entry) (points : List ℕ) (deeper : List KeyRange) (e : Entry) : Type 0 where
  pub needed : IsNeeded inputs points e
  pub stays : may_go points deeper e ≡ false

-- the outputs of a merge hold just what is kept of its inputs
abbrev pub HoldsKept : List Entry → List ℕ → List KeyRange → List Entry → Type 0
HoldsKept inputs points deeper outputs = (e : Entry) → IsIn e outputs ↔ IsKept inputs points deeper e
