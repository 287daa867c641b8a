-- The rule of a log of publications, and what its step shows.
use Rattle.std.specs.Prelude.{ℕ, ◌≡◌, ◌==◌, true, List, [], ◌∷◌, ◌++◌, length, MatchBool}
use Rattle.logbook.specs.Pages.{Book, Cell, Named, Step, View}
use Rattle.lsm_edit.specs.Served.{ServedValue}
use Rattle.lsm_readers.specs.Publications.{AreRising}

-- the first word is the length of the list, whose numbers rise. A book has two words, of which this one leaves the second at 0
pub record IsLog (cells : List Cell) (log : List ServedValue) : Type 0 where
  pub words : cells ≡ (length log, true) ∷ (0, true) ∷ []
  pub rising : AreRising log

-- the first word of a book, which counts its publications
abbrev pub word_of : Book → Named
word_of b = record { tracked = true; key = 0; book = b }

-- the publication was added to all that had been seen; or the list was longer, and was seen
abbrev pub AddsToLog : Step ServedValue → View ServedValue ℕ → ℕ → View ServedValue ℕ → Type 0
AddsToLog s v found w = MatchBool (found == s.old) ((w.0 ≡ v.0 ++ s.ask ∷ []) × AreRising w.0) ((length w.0 ≡ found) × AreRising w.0)
