-- The lines of a text and the words of a line (POSIX, shell command language: fields between blanks).
use Rattle.std.specs.Prelude.{ℕ, ◌==◌, ◌||◌, Bool, true, false, List, [], ◌∷◌, Option, None, Some, filter}
use Rattle.std.specs.List.{slice_split}
use Rattle.std.specs.Borrow.{Bor}

-- a space, a tab or a carriage return
abbrev pub is_separator : ℕ → Bool
is_separator byte = byte == 32 || byte == 9 || byte == 13

-- a line feed
abbrev pub is_line_feed : ℕ → Bool
is_line_feed byte = byte == 10

-- a piece that is not empty
abbrev pub is_word : List ℕ → Bool
is_word [] = false
is_word (byte ∷ piece) = true

-- the pieces between line feeds; after a last line feed there is one more line, without words
unfoldable pub lines : List ℕ → List (List ℕ)
lines text = slice_split is_line_feed text

-- the pieces between separators
unfoldable pub words : List ℕ → List (List ℕ)
words line = filter is_word (slice_split is_separator line)

-- the lines of a text that is not at its end
abbrev pub lines_left : Option (Bor (List ℕ)) → List (List ℕ)
lines_left None = []
lines_left (Some text) = lines text.now
