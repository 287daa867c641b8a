-- How many bytes are enough to know what they begin with: a request, or none within the limits.
use Rattle.std.specs.Prelude.{ℕ, ◌+◌, ◌*◌, ◌<◌, ◌≤◌, List, length}
use Rattle.lsm_resp.specs.declared.limits.TheConstants.{MAX_HEADER_BYTES, MAX_REQUEST_BYTES, MAX_WORD_BYTES, MAX_WORDS}
use Rattle.lsm_resp.specs.declared.request.Parsed.{Parsed}
use Rattle.lsm_resp.specs.declared.request.Parsed.TheVariants.{Request, Partial}

-- a line that announces a number
abbrev pub enough_for_header : ℕ
enough_for_header = MAX_HEADER_BYTES + 2

-- a word as a bulk string
abbrev pub enough_for_bulk : ℕ
enough_for_bulk = enough_for_header + MAX_WORD_BYTES + 2

-- a number of words as bulk strings: the one that makes them too long has to come whole
abbrev pub enough_for_bulks : ℕ → ℕ
enough_for_bulks count = count * (enough_for_header + 2) + MAX_REQUEST_BYTES + MAX_WORD_BYTES

abbrev pub enough_for_request : ℕ
enough_for_request = enough_for_header + enough_for_bulks MAX_WORDS

-- no more is asked for, and no more taken
abbrev pub IsEnough : List ℕ → Parsed → Type 0
IsEnough input (Request lent len) = len ≤ enough_for_request
IsEnough input Partial = length input < enough_for_request
