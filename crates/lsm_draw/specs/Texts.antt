-- Texts within markup.
use Rattle.std.specs.Prelude.{ℕ, ◌==◌, ◌&&◌, ◌||◌, not, Bool, List, [], ◌∷◌, nat_le, codes, if◌then◌else◌}
use Rattle.std.specs.List.{flat_map}

-- a printable byte of ASCII, or a space
abbrev pub is_printable : ℕ → Bool
is_printable byte = nat_le 32 byte && nat_le byte 126

-- a byte as it is written between tags: itself or its entity, or a question mark if it is not printable
abbrev pub markup_of : ℕ → List ℕ
markup_of byte =
    if byte == 38 then codes "&amp;"
    else if byte == 60 then codes "&lt;"
    else if byte == 62 then codes "&gt;"
    else if byte == 34 then codes "&quot;"
    else if byte == 39 then codes "&#39;"
    else if is_printable byte then byte ∷ []
    else codes "?"

-- a text as it is written between tags
abbrev pub escaped : List ℕ → List ℕ
escaped text = flat_map markup_of text

-- printable, and neither the beginning nor the end of a tag or of a quoted text
abbrev pub is_plain : ℕ → Bool
is_plain byte = is_printable byte && not (byte == 60) && not (byte == 62) && not (byte == 34) && not (byte == 39)
