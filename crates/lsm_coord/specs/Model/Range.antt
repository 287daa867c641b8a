-- What a scan returns (LevelDB, general documentation: iteration).
use Rattle.std.specs.Prelude.{◌≡◌, ℕ, ◌≤◌, List, Option, Some, length, true, ◌⊎◌}
use Rattle.std.specs.List.{AllPairs}
use Rattle.lsm_key.specs.Sets.{IsIn}
use Rattle.lsm_key.specs.Order.{key_lt, key_between}

-- the one key is before the other, by its bytes
abbrev pub IsBelow : List ℕ → List ℕ → Type 0
IsBelow a b = key_lt a b ≡ true

-- the key is at or after lo and before hi
abbrev pub InHalfOpenRange : List ℕ → List ℕ → List ℕ → Type 0
InHalfOpenRange lo hi key = key_between lo hi key ≡ true

-- the first keys from lo up to but not including hi that have a value, ascending, each with its value
pub record IsRange (value_of : List ℕ → Option (List ℕ)) (lo hi : List ℕ) (limit : ℕ) (pairs : List (List ℕ × List ℕ)) : Type 0 where
  pub few : length pairs ≤ limit
  pub ascending : AllPairs (λ p q. IsBelow p.0 q.0) pairs
  pub right : (p : List ℕ × List ℕ) → IsIn p pairs → InHalfOpenRange lo hi p.0 × (value_of p.0 ≡ Some p.1)
  -- a key that is left out has no value, or is beyond the limit
  pub whole : (key value : List ℕ) → InHalfOpenRange lo hi key → value_of key ≡ Some value
      → IsIn (key, value) pairs ⊎ ((length pairs ≡ limit) × ((p : List ℕ × List ℕ) → IsIn p pairs → IsBelow p.0 key))
