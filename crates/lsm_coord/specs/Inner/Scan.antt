-- What is visible in sorted entries at a read sequence, key after key: the pass of a scan.
use Rattle.std.specs.Prelude.{◌≡◌, ◌↔◌, ℕ, Bool, not, true, false, ◌||◌, List, [], ◌∷◌, ◌++◌, Option, None, Some, nat_le, take, if◌then◌else◌}
use Rattle.std.specs.Option.{option_map, option_to_list}
use Rattle.lsm_key.specs.declared.entry.Entry.{Entry}
use Rattle.lsm_key.specs.Order.{IsInOrder, key_lt}
use Rattle.lsm_key.specs.Sets.{IsIn}
use Rattle.lsm_key.specs.Visible.{has_key, entry_value}

-- the entry has the key of the one before it
abbrev pub is_again : Option Entry → Entry → Bool
is_again None e = false
is_again (Some before) e = has_key before.ikey.key e

-- it is not visible at the sequence, or a newer one of its key was
abbrev pub is_hidden : ℕ → Option Entry → Entry → Bool
is_hidden point before e = not (nat_le e.ikey.seq point) || is_again before e

-- the key and its value, if it has one
abbrev pub pair_of : Entry → List (List ℕ × List ℕ)
pair_of e = option_to_list (option_map (λ (value : List ℕ). (e.ikey.key, value)) (entry_value e))

-- the pairs of the keys that have a value, after an entry that was seen before
abbrev pub shown_pairs : ℕ → Option Entry → List Entry → List (List ℕ × List ℕ)
shown_pairs point before [] = []
shown_pairs point before (e ∷ es) =
    if is_hidden point before e then shown_pairs point before es
    else pair_of e ++ shown_pairs point (Some e) es

-- those of the entries whose key is before hi
abbrev pub AreBelow : List ℕ → List Entry → List Entry → Type 0
AreBelow hi entries these = (e : Entry) → IsIn e these ↔ (IsIn e entries × (key_lt e.ikey.key hi ≡ true))

-- the first pairs of the entries whose key is before hi
pub record AreFirstPairs (point : ℕ) (hi : List ℕ) (limit : ℕ) (entries : List Entry) (pairs : List (List ℕ × List ℕ)) : Type 0 where
  pub sorted : List Entry
  pub all : AreBelow hi entries sorted
  pub order : IsInOrder sorted
  pub first : pairs ≡ take limit (shown_pairs point None sorted)
