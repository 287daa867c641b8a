-- Keys and values as scripts write them: printable ASCII with escapes by percent (RFC 3986, section 2.1).
use Rattle.std.specs.Prelude.{ℕ, ◌+◌, ◌-◌, ◌*◌, ◌==◌, ◌&&◌, not, Bool, List, [], ◌∷◌, Option, None, Some, nat_le, if◌then◌else◌}
use Rattle.std.specs.Option.{option_and_then, option_map}
use Rattle.std.specs.Str.{bytes_eq}

-- the byte is from the low one to the high one, both included
abbrev pub byte_between : ℕ → ℕ → ℕ → Bool
byte_between low high byte = nat_le low byte && nat_le byte high

-- the value of a hexadecimal digit, in either case
abbrev pub hex : ℕ → Option ℕ
hex byte =
    if byte_between 48 57 byte then Some (byte - 48)
    else if byte_between 97 102 byte then Some (byte - 87)
    else if byte_between 65 70 byte then Some (byte - 55)
    else None

-- the byte of two hexadecimal digits
abbrev pub escape : ℕ → ℕ → Option ℕ
escape high low = option_and_then (λ h. option_map (λ l. 16 * h + l) (hex low)) (hex high)

-- a printable byte other than the percent sign is itself
abbrev pub literal : ℕ → Option ℕ
literal byte = if byte_between 33 126 byte && not (byte == 37) then Some byte else None

-- a byte and the bytes after it, if both are read
abbrev pub onto : Option ℕ → Option (List ℕ) → Option (List ℕ)
onto byte rest = option_and_then (λ b. option_map (λ bs. b ∷ bs) rest) byte

-- the bytes that a word encodes
abbrev pub read_bytes : List ℕ → Option (List ℕ)
read_bytes [] = Some []
read_bytes (a ∷ []) = onto (literal a) (read_bytes [])
read_bytes (a ∷ b ∷ []) = onto (literal a) (read_bytes (b ∷ []))
read_bytes (a ∷ b ∷ c ∷ rest) = if a == 37 then onto (escape b c) (read_bytes rest) else onto (literal a) (read_bytes (b ∷ c ∷ rest))

-- two quotes are the empty text
unfoldable pub token : List ℕ → Option (List ℕ)
token word = if bytes_eq word (34 ∷ 34 ∷ []) then Some [] else read_bytes word
