-- A search for a key: the files whose ranges cover it, in search order (LevelDB, version_set.cc, Version::ForEachOverlapping).
use Rattle.std.specs.Prelude.{◌≡◌, ℕ, ◌<◌, ◌≤◌, ◌-◌, ◌⊎◌, true, false, List, Some, length, slice_get}
use Rattle.std.specs.List.{AllWithin}
use Rattle.lsm_edit.specs.declared.served.Placed.{Placed}
use Rattle.lsm_edit.specs.Served.{is_covered}

-- the key is not in the file's range
abbrev pub Misses : List ℕ → Placed → Type 0
Misses key p = is_covered p.meta key ≡ false

-- the key is in the range of the file at the place
pub record Covers (ps : List Placed) (key : List ℕ) (place : ℕ) : Type 0 where
  pub file : Placed
  pub there : slice_get ps place ≡ Some file
  pub covered : is_covered file.meta key ≡ true

-- a search begins at the front, and goes on after a file whose range covers the key
abbrev pub GoesOn : List Placed → List ℕ → ℕ → Type 0
GoesOn ps key from = (from ≡ 0) ⊎ ((1 ≤ from) × Covers ps key (from - 1))

-- the first file from a place on whose range covers the key
pub record IsNext (ps : List Placed) (key : List ℕ) (from place : ℕ) : Type 0 where
  pub after : from ≤ place
  pub covers : Covers ps key place
  pub misses : AllWithin (Misses key) ps from place

-- the file is of a level above this one
abbrev pub IsUpper : ℕ → Placed → Type 0
IsUpper level p = p.meta.level < level

-- no file of the levels above this one, from a place on, covers the key
abbrev pub UpperMiss : List Placed → List ℕ → ℕ → ℕ → Type 0
UpperMiss ps key from level = AllWithin (λ p. p.meta.level < level → Misses key p) ps from (length ps)
