-- Numbers as scripts write them: 1 to 20 decimal digits, of a value below 2^64 (POSIX, decimal integer).
use Rattle.std.specs.Prelude.{ℕ, ◌+◌, ◌-◌, ◌*◌, ◌^◌, ◌&&◌, List, [], ◌∷◌, Option, None, Some, length, nat_lt, nat_le, if◌then◌else◌}
use Rattle.std.specs.Str.{all_ascii_digits}

-- the value of digits that follow a value
abbrev pub value_after : ℕ → List ℕ → ℕ
value_after n [] = n
value_after n (digit ∷ digits) = value_after (10 * n + (digit - 48)) digits

-- the number that a word spells
unfoldable pub number : List ℕ → Option ℕ
number word =
    if nat_lt 0 (length word) && nat_le (length word) 20 && all_ascii_digits word && nat_lt (value_after 0 word) (2 ^ 64) then Some (value_after 0 word)
    else None
