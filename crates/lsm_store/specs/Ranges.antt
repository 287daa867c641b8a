-- What is left of a range of keys that is read pair by pair (LevelDB, db.h: NewIterator; iterator.h: Next).
use Rattle.std.specs.Prelude.{◌≡◌, ◌⊎◌, ℕ, suc, ◌+◌, ◌-◌, ◌<◌, ◌≤◌, Bool, true, List, [], ◌∷◌, ◌++◌, Option, None, Some, Result, Ok, Err, if◌then◌else◌, length, take}
use Rattle.lsm_coord.specs.declared.error.CoordError.{CoordError}
use Rattle.lsm_coord.specs.declared.error.CoordError.TheVariants as coord
use Rattle.lsm_coord.specs.declared.snapshot.SnapId.{SnapId}
use Rattle.lsm_coord.specs.Contract.Calls.{point_of}
use Rattle.lsm_coord.specs.Contract.Value.{CoordValue}
use Rattle.lsm_store.specs.declared.error.StoreError.{StoreError}
use Rattle.lsm_store.specs.declared.store.range.Part.{Part}
use Rattle.lsm_store.specs.Store.{OfCoord, ReadsRange}

-- the keys from one up to but not including another, in a store, and how many answers may still come
pub record RangeValue : Type 0 where
  pub store : CoordValue
  pub from : List ℕ
  pub hi : List ℕ
  pub at : Option SnapId
  pub left : ℕ

-- why a range is not read: its snapshot does not exist, or memory runs out
abbrev pub RangeRefuses : CoordValue → Option SnapId → CoordError → Type 0
RangeRefuses c at coord.NoSnapshot = point_of c at ≡ None
RangeRefuses c at coord.OutOfMemory = Unit {0}
RangeRefuses c at e = ⊥

-- the first key after a key
abbrev pub next_key : List ℕ → List ℕ
next_key key = key ++ 0 ∷ []

-- where a range begins once an answer was given
abbrev pub after_pair : List ℕ → Option (List ℕ × List ℕ) → List ℕ
after_pair from None = from
after_pair from (Some pair) = next_key pair.0

-- the first pair of a range, or none if it has no pair
abbrev pub ReadsFirst : CoordValue → List ℕ → List ℕ → Option SnapId → Option (List ℕ × List ℕ) → Type 0
ReadsFirst c from hi at None = ReadsRange c from hi at 1 []
ReadsFirst c from hi at (Some pair) = ReadsRange c from hi at 1 (pair ∷ [])

-- The next answer is the first pair, and the range begins after its key from then on; or why it can't be read, and the range stays; or
-- none, if no pair is left or no answer may come any more.
abbrev pub NextPair : RangeValue → Option (Result (List ℕ × List ℕ) StoreError) → RangeValue → Type 0
NextPair old (Some (Ok pair)) new = ReadsFirst old.store old.from old.hi old.at (Some pair) × (new ≡ record old { from = after_pair old.from (Some pair); left = old.left - 1 })
NextPair old (Some (Err e)) new = OfCoord (RangeRefuses old.store old.at) e × (new ≡ record old { left = old.left - 1 })
NextPair old None new = ((old.left ≡ 0) ⊎ ReadsFirst old.store old.from old.hi old.at None) × (new ≡ old)

-- ---- the parts in which it is read

-- where a range begins once these pairs were given
abbrev pub after_pairs : List ℕ → List (List ℕ × List ℕ) → List ℕ
after_pairs from [] = from
after_pairs from (pair ∷ pairs) = after_pairs (next_key pair.0) pairs

-- the pairs are the first of a range, or all of them
abbrev pub ReadsPart : CoordValue → List ℕ → List ℕ → Option SnapId → Bool → List (List ℕ × List ℕ) → Type 0
ReadsPart c from hi at is_last pairs = ReadsRange c from hi at (if is_last then suc (length pairs) else length pairs) pairs

-- the part of a range, some of whose pairs were given
pub record IsPart (c : CoordValue) (hi : List ℕ) (at : Option SnapId) (part : Part) : Type 0 where
  pub given : part.given ≤ length part.pairs.items
  pub reads : ReadsPart c part.from.items hi at part.is_last part.pairs.items

-- where what was not given of a part begins
abbrev pub part_place : Part → List ℕ
part_place part = after_pairs part.from.items (take part.given part.pairs.items)

-- it has a pair left, or is the last part
abbrev pub IsReady : Part → Type 0
IsReady part = (part.given < length part.pairs.items) ⊎ (part.is_last ≡ true)

-- the part once a pair of it was given
abbrev pub after_taking : Part → Option (List ℕ × List ℕ) → Part
after_taking part None = part
after_taking part (Some pair) = record part { given = part.given + 1 }
