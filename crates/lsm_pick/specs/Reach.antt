-- The key range of a closure while it is searched for, and the files that it has in the end.
use Rattle.std.specs.Prelude.{◌≡◌, ◌⊎◌, ℕ, ◌+◌, Bool, true, not, ◌&&◌, ◌||◌, List, nat_eq, nat_lt}
use Rattle.lsm_key.specs.Sets.{IsIn}
use Rattle.lsm_key.specs.Order.{key_le}
use Rattle.lsm_key.specs.KeyRanges.{range_encloses, ranges_meet}
use Rattle.lsm_edit.specs.declared.file.FileMeta.{FileMeta}
use Rattle.lsm_edit.specs.declared.served.Placed.{Placed}
use Rattle.lsm_pick.specs.Closure.{Candidate, IsClosed}

-- the candidate that begins with this file, without or with the newer ones of level 0
abbrev pub candidate_of : FileMeta → Bool → Candidate
candidate_of first older_only = record { first = first; older_only = older_only }

-- the file's range overlaps the keys from lo to hi
abbrev pub is_met : List ℕ → List ℕ → FileMeta → Bool
is_met lo hi f = ranges_meet lo hi f.smallest f.largest

-- its range is inside them
abbrev pub is_inside : List ℕ → List ℕ → FileMeta → Bool
is_inside lo hi f = range_encloses lo hi f.smallest f.largest

-- a file that joins the closure if it overlaps its key range
abbrev pub may_join : Candidate → FileMeta → Bool
may_join t f = nat_eq f.level (t.first.level + 1) || (nat_eq t.first.level 0 && (nat_eq f.level 0 && (not t.older_only || nat_lt f.number t.first.number)))

-- the first file, or one that may join
abbrev pub MayBeInput : Candidate → FileMeta → Type 0
MayBeInput t f = (f ≡ t.first) ⊎ (may_join t f ≡ true)

-- keys that every closed set reaches too, from the least one of a file to the greatest one of a file
pub record IsReach (files : List FileMeta) (t : Candidate) (lo hi : List ℕ) : Type 0 where
  pub first_low : key_le lo t.first.smallest ≡ true
  pub first_high : key_le t.first.largest hi ≡ true
  pub least : (a : FileMeta) × IsIn a files × MayBeInput t a × (a.smallest ≡ lo) × (key_le a.largest hi ≡ true)
  pub greatest : (b : FileMeta) × IsIn b files × MayBeInput t b × (b.largest ≡ hi) × (key_le lo b.smallest ≡ true)
  pub forced : (set : List FileMeta) → IsIn t.first set → IsClosed files t set → ((a : FileMeta) × IsIn a set × (a.smallest ≡ lo)) × ((b : FileMeta) × IsIn b set × (b.largest ≡ hi))

-- the range has grown by files that join, and covers all files of the level that it overlapped
pub record Grows (t : Candidate) (places : List Placed) (test : FileMeta → Bool) (lo hi new_lo new_hi : List ℕ) : Type 0 where
  pub low : key_le new_lo lo ≡ true
  pub high : key_le hi new_hi ≡ true
  pub taken : (p : Placed) → IsIn p places → test p.meta ≡ true → is_met lo hi p.meta ≡ true → is_inside new_lo new_hi p.meta ≡ true
  pub sound : (files : List FileMeta) → ((p : Placed) → IsIn p places → IsIn p.meta files) → IsReach files t lo hi → IsReach files t new_lo new_hi

-- no file is left to join
pub record IsFull (files : List FileMeta) (t : Candidate) (lo hi : List ℕ) : Type 0 where
  pub reach : IsReach files t lo hi
  pub full : (f : FileMeta) → IsIn f files → may_join t f ≡ true → is_met lo hi f ≡ true → is_inside lo hi f ≡ true

-- the files of the closure that reaches from lo to hi
abbrev pub is_taken : Candidate → List ℕ → List ℕ → FileMeta → Bool
is_taken t lo hi f = nat_eq f.number t.first.number || (may_join t f && is_met lo hi f)

-- a file that may join from the level
abbrev pub joins_at : Candidate → ℕ → FileMeta → Bool
joins_at t level f = nat_eq f.level level && may_join t f
