-- Inline requests, by the bytes of them that have come (Redis serialization protocol specification: inline commands).
use Rattle.std.specs.Prelude.{◌≡◌, ℕ, ◌+◌, ◌==◌, ◌||◌, ◌≢◌, ◌<◌, ◌≤◌, Bool, not, List, [], ◌∷◌, ◌++◌, Option, None, Some, Result, Ok, Err, All, filter, get_or, length}
use Rattle.std.specs.List.{slice_split}
use Rattle.lsm_resp.specs.declared.bulk.Bulks.{Bulks}
use Rattle.lsm_resp.specs.declared.fault.ParseError.{ParseError}
use Rattle.lsm_resp.specs.declared.fault.ProtocolFault.{ProtocolFault}
use Rattle.lsm_resp.specs.declared.limits.TheConstants.{MAX_LINE_BYTES}
use Rattle.lsm_resp.specs.declared.request.Parsed.{Parsed}
use Rattle.lsm_resp.specs.Pieces.{FindsAll}
use Rattle.lsm_resp.specs.Requests.{FindsWords, IsAhead}

-- a space, a tab or a carriage return
abbrev pub is_blank : ℕ → Bool
is_blank byte = byte == 32 || byte == 9 || byte == 13

abbrev pub is_line_word : List ℕ → Bool
is_line_word bytes = not (length bytes == 0)

-- the words of a line, which blanks part
abbrev pub line_words : List ℕ → List (List ℕ)
line_words line = filter is_line_word (slice_split is_blank line)

-- a line within the limits that begins as no array does, without its line feed
pub record IsLine (line : List ℕ) : Type 0 where
  pub short : length line ≤ MAX_LINE_BYTES
  pub one : All (λ byte. byte ≢ 10) line
  pub inline : get_or line 0 0 ≢ 42

-- where such line ends
abbrev pub LineEndsAt : List ℕ → List ℕ → Result (Option ℕ) ProtocolFault → Type 0
LineEndsAt input line (Ok (Some end)) = end ≡ length line
LineEndsAt input line (Ok None) = length input < length line + 1
LineEndsAt input line (Err why) = ⊥

abbrev pub FindsEnd : List ℕ → Result (Option ℕ) ProtocolFault → Type 0
FindsEnd input found = (line : List ℕ) → IsLine line → IsAhead (line ++ 10 ∷ []) input → LineEndsAt input line found

-- whatever such line lies ahead, its words are found
abbrev pub FindsLine : List ℕ → Result (Option Bulks) ParseError → Type 0
FindsLine input found = (line : List ℕ) → IsLine line → IsAhead (line ++ 10 ∷ []) input → FindsAll input (line_words line) (line ++ 10 ∷ []) found

abbrev pub FindsLineRequest : List ℕ → Result Parsed ParseError → Type 0
FindsLineRequest input found = (line : List ℕ) → IsLine line → IsAhead (line ++ 10 ∷ []) input → FindsWords input (line_words line) (line ++ 10 ∷ []) found
