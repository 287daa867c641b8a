-- The first bytes of a key after a front that most keys begin with, as a number that compares as they do (normalized keys: Graefe 2006, "Implementing sorting in database systems", section 3; truncated prefixes: Bayer and Unterauer 1977).
use Rattle.std.specs.Prelude.{ℕ, zero, suc, ◌+◌, ◌-◌, ◌*◌, ◌^◌, List, [], ◌∷◌, slice_index}
use Rattle.std.specs.Ordering.{nat_cmp, match_ordering}

-- the byte at a place, 0 after the end
abbrev pub byte_at : List ℕ → ℕ → ℕ
byte_at key i = slice_index key i

-- the first n bytes as a big-endian number, with zeros in place of those that are missing
abbrev pub leading : ℕ → List ℕ → ℕ
leading zero key = 0
leading (suc n) [] = 0
leading (suc n) (b ∷ bs) = b * 256 ^ n + leading n bs

-- the first 8 bytes after the front; the least number for a key before all that begin with the front, the greatest for one after them
abbrev pub prefix_of : List ℕ → List ℕ → ℕ
prefix_of [] key = leading 8 key
prefix_of (f ∷ fs) [] = 0
prefix_of (f ∷ fs) (b ∷ bs) = match_ordering (nat_cmp b f) 0 (prefix_of fs bs) (2 ^ 64 - 1)
