-- Which request lies ahead, by the bytes of it that have come (Redis serialization protocol specification, RESP2: sending commands).
use Rattle.std.specs.Prelude.{◌≡◌, ℕ, ◌+◌, ◌<◌, ◌≤◌, List, [], ◌++◌, ◌∷◌, Result, Ok, Err, All, length, map}
use Rattle.std.specs.Borrow.{Bor}
use Rattle.lsm_resp.specs.declared.limits.TheConstants.{MAX_REQUEST_BYTES, MAX_WORD_BYTES, MAX_WORDS}
use Rattle.lsm_resp.specs.declared.fault.ParseError.{ParseError}
use Rattle.lsm_resp.specs.declared.fault.ParseError.TheVariants.{OutOfMemory, Protocol}
use Rattle.lsm_resp.specs.declared.request.Parsed.{Parsed}
use Rattle.lsm_resp.specs.declared.request.Parsed.TheVariants.{Request, Partial}
use Rattle.lsm_resp.specs.Wire.{request_bytes}

-- how many bytes words have together
abbrev pub words_weight : List (List ℕ) → ℕ
words_weight [] = 0
words_weight (word ∷ words) = length word + words_weight words

-- words within the limits
pub record AreWords (words : List (List ℕ)) : Type 0 where
  pub few : length words ≤ MAX_WORDS
  pub short : All (λ word. length word ≤ MAX_WORD_BYTES) words
  pub light : words_weight words ≤ MAX_REQUEST_BYTES

-- the words that are lent
abbrev pub words_of : List (Bor (List ℕ)) → List (List ℕ)
words_of lent = map (λ word. word.now) lent

-- the input, and what may come behind it, begins with these bytes
pub record IsAhead (bytes input : List ℕ) : Type 0 where
  pub later : List ℕ
  pub rest : List ℕ
  pub is : input ++ later ≡ bytes ++ rest

-- Of words that lie ahead as these bytes nothing is said but them and how many bytes they take; and if not all of them have come, that so it
-- is. Memory may run out.
abbrev pub FindsWords : List ℕ → List (List ℕ) → List ℕ → Result Parsed ParseError → Type 0
FindsWords input words bytes (Ok (Request lent len)) = (words_of lent.items ≡ words) × (len ≡ length bytes)
FindsWords input words bytes (Ok Partial) = length input < length bytes
FindsWords input words bytes (Err OutOfMemory) = Unit {0}
FindsWords input words bytes (Err (Protocol why)) = ⊥

-- whatever request within the limits lies ahead, it is the one that is found
abbrev pub FindsRequest : List ℕ → Result Parsed ParseError → Type 0
FindsRequest input found = (words : List (List ℕ)) → AreWords words → IsAhead (request_bytes words) input → FindsWords input words (request_bytes words) found

-- a request takes at least a byte, and no more than have come
abbrev pub TakesWithin : List ℕ → Parsed → Type 0
TakesWithin input (Request lent len) = (0 < len) × (len ≤ length input)
TakesWithin input Partial = Unit {0}
