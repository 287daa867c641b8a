-- Where a range of keys begins in a span.
use Rattle.std.specs.Prelude.{◌≡◌, ℕ, Bool, true, false, List, [], ◌∷◌, ◌++◌, length}
use Rattle.std.specs.List.{AllByRecursion}
use Rattle.lsm_key.specs.declared.entry.Entry.{Entry}
use Rattle.lsm_key.specs.Order.{key_lt}
use Rattle.lsm_block.specs.Blocks.{entries}

-- the entry's key is below lo
abbrev pub is_below : List ℕ → Entry → Bool
is_below lo e = key_lt e.ikey.key lo

-- no entry, or the first one's key is not below lo
abbrev pub StartsFrom : List ℕ → List Entry → Type 0
StartsFrom lo [] = Unit {0}
StartsFrom lo (first ∷ more) = is_below lo first ≡ false

-- the place is where an entry begins, or the end, and the keys of the entries before it are below lo
pub record Skips (es : List Entry) (lo : List ℕ) (place : ℕ) : Type 0 where
  pub before : List Entry
  pub more : List Entry
  pub parts : es ≡ before ++ more
  pub begins : place ≡ length (entries before)
  pub below : AllByRecursion (λ e. is_below lo e ≡ true) before

-- and that of the first one after it, if there is one, is not
pub record IsLowerPlace (es : List Entry) (lo : List ℕ) (place : ℕ) : Type 0 where
  pub skips : Skips es lo place
  pub stops : StartsFrom lo skips.more
