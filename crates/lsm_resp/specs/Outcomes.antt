-- What bytes are if a request is found in them, none yet, or a fault: each is answered only of its own bytes (Redis serialization protocol
-- specification, RESP2: sending commands, inline commands).
use Rattle.std.specs.Prelude.{◌≡◌, ◌≢◌, ◌⊎◌, ℕ, ◌+◌, ◌==◌, ◌<◌, ◌≤◌, ◌^◌, not, List, [], ◌∷◌, ◌++◌, All, drop, get_or, length, take}
use Rattle.std.specs.Fmt.{decimal}
use Rattle.std.specs.Io.{StartsWith}
use Rattle.std.specs.List.{flat_map, prefix_len}
use Rattle.lsm_resp.specs.declared.fault.ParseError.{ParseError}
use Rattle.lsm_resp.specs.declared.fault.ParseError.TheVariants.{OutOfMemory, Protocol}
use Rattle.lsm_resp.specs.declared.fault.ProtocolFault.{ProtocolFault}
use Rattle.lsm_resp.specs.declared.fault.ProtocolFault.TheVariants.{BadLength, LineTooLong, NoBulk, NoLineEnd, RequestTooLong, TooManyWords, WordTooLong}
use Rattle.lsm_resp.specs.declared.limits.TheConstants.{MAX_HEADER_BYTES, MAX_LINE_BYTES, MAX_REQUEST_BYTES, MAX_WORD_BYTES, MAX_WORDS}
use Rattle.lsm_resp.specs.declared.request.Parsed.{Parsed}
use Rattle.lsm_resp.specs.declared.request.Parsed.TheVariants.{Request, Partial}
use Rattle.lsm_resp.specs.Lines.{IsLine, line_words}
use Rattle.lsm_resp.specs.Requests.{AreWords, words_of, words_weight}
use Rattle.lsm_resp.specs.Wire.{bulk_bytes, header_bytes, request_bytes}

-- how many bytes come before the first of this value
abbrev pub bytes_before : ℕ → List ℕ → ℕ
bytes_before byte bytes = prefix_len (λ b. not (b == byte)) bytes

-- ---- the line behind a mark, which announces a number

-- its end has not come, nor what makes it too long
abbrev pub IsPartOfLength : List ℕ → Type 0
IsPartOfLength bytes = (bytes_before 13 bytes < MAX_HEADER_BYTES) × (length bytes < bytes_before 13 bytes + 2)

-- it is too long, or no number with a line end
abbrev pub IsNoLength : List ℕ → Type 0
IsNoLength bytes =
    (MAX_HEADER_BYTES ≤ bytes_before 13 bytes)
    ⊎ ((bytes_before 13 bytes + 2 ≤ length bytes) × ((n : ℕ) → n < 2 ^ 64 → take (bytes_before 13 bytes + 2) bytes ≢ decimal n ++ 13 ∷ 10 ∷ []))

-- ---- a word

-- it has not come whole
pub data IsPartOfWord (bytes : List ℕ) : Type 0 where
  of_mark : bytes ≡ [] → IsPartOfWord bytes
  of_length : get_or bytes 0 0 ≡ 36 → IsPartOfLength (drop 1 bytes) → IsPartOfWord bytes
  of_bytes : (n : ℕ) (rest : List ℕ) → n ≤ MAX_WORD_BYTES → bytes ≡ header_bytes 36 n ++ rest → length rest < n + 2 → IsPartOfWord bytes

-- why it is none within the limits
abbrev pub IsFaultOfWord : List ℕ → ProtocolFault → Type 0
IsFaultOfWord bytes NoBulk = (bytes ≢ []) × (get_or bytes 0 0 ≢ 36)
IsFaultOfWord bytes BadLength = (get_or bytes 0 0 ≡ 36) × IsNoLength (drop 1 bytes)
IsFaultOfWord bytes WordTooLong = (n : ℕ) × (MAX_WORD_BYTES < n) × (n < 2 ^ 64) × StartsWith bytes (header_bytes 36 n)
IsFaultOfWord bytes NoLineEnd =
    (n : ℕ) × (rest : List ℕ) × (n ≤ MAX_WORD_BYTES) × (bytes ≡ header_bytes 36 n ++ rest) × (n + 2 ≤ length rest) × (take 2 (drop n rest) ≢ 13 ∷ 10 ∷ [])
IsFaultOfWord bytes why = ⊥

-- ---- the words of an array

-- of more words these have come, within the limits, and the rest is behind them
pub record ArePassed (count : ℕ) (words : List (List ℕ)) (bytes rest : List ℕ) : Type 0 where
  pub more : length words < count
  pub short : All (λ word. length word ≤ MAX_WORD_BYTES) words
  pub light : words_weight words ≤ MAX_REQUEST_BYTES
  pub is : bytes ≡ flat_map bulk_bytes words ++ rest

-- the bytes are these words, as many as were announced, within the limits
pub record AreRead (count : ℕ) (words : List (List ℕ)) (bytes : List ℕ) : Type 0 where
  pub all : length words ≡ count
  pub short : All (λ word. length word ≤ MAX_WORD_BYTES) words
  pub light : words_weight words ≤ MAX_REQUEST_BYTES
  pub is : bytes ≡ flat_map bulk_bytes words

abbrev pub IsPartOfWords : ℕ → List ℕ → Type 0
IsPartOfWords count bytes = (words : List (List ℕ)) × (rest : List ℕ) × ArePassed count words bytes rest × IsPartOfWord rest

-- of the next word, behind these
abbrev pub IsFaultOfNext : List (List ℕ) → List ℕ → ProtocolFault → Type 0
IsFaultOfNext words rest RequestTooLong =
    (word : List ℕ) × (length word ≤ MAX_WORD_BYTES) × (MAX_REQUEST_BYTES < words_weight words + length word) × StartsWith rest (bulk_bytes word)
IsFaultOfNext words rest why = IsFaultOfWord rest why

abbrev pub IsFaultOfWords : ℕ → List ℕ → ProtocolFault → Type 0
IsFaultOfWords count bytes why = (words : List (List ℕ)) × (rest : List ℕ) × ArePassed count words bytes rest × IsFaultOfNext words rest why

-- behind the header of an array within the limits, its words have this fault
abbrev pub IsFaultOfArray : List ℕ → ProtocolFault → Type 0
IsFaultOfArray input why = (n : ℕ) × (bytes : List ℕ) × (n ≤ MAX_WORDS) × (input ≡ header_bytes 42 n ++ bytes) × IsFaultOfWords n bytes why

-- ---- a request

-- the bytes are these words as an array of bulk strings, or a line of them with its line feed
pub data IsRequest (words : List (List ℕ)) (bytes : List ℕ) : Type 0 where
  array : AreWords words → bytes ≡ request_bytes words → IsRequest words bytes
  line : (line : List ℕ) → IsLine line → bytes ≡ line ++ 10 ∷ [] → words ≡ line_words line → IsRequest words bytes

-- it has not come whole
pub data IsPartOfRequest (input : List ℕ) : Type 0 where
  of_line : get_or input 0 0 ≢ 42 → bytes_before 10 input ≡ length input → length input ≤ MAX_LINE_BYTES → IsPartOfRequest input
  of_length : get_or input 0 0 ≡ 42 → IsPartOfLength (drop 1 input) → IsPartOfRequest input
  of_words : (n : ℕ) (bytes : List ℕ) → n ≤ MAX_WORDS → input ≡ header_bytes 42 n ++ bytes → IsPartOfWords n bytes → IsPartOfRequest input

-- why it is none within the limits: the first reason
abbrev pub IsFault : List ℕ → ProtocolFault → Type 0
IsFault input LineTooLong = (get_or input 0 0 ≢ 42) × (MAX_LINE_BYTES < bytes_before 10 input)
IsFault input TooManyWords = (n : ℕ) × (MAX_WORDS < n) × (n < 2 ^ 64) × StartsWith input (header_bytes 42 n)
IsFault input BadLength = ((get_or input 0 0 ≡ 42) × IsNoLength (drop 1 input)) ⊎ IsFaultOfArray input BadLength
IsFault input why = IsFaultOfArray input why

-- ---- what is answered

-- what is taken is a request of the words that are lent
abbrev pub TakesRequest : List ℕ → Parsed → Type 0
TakesRequest input (Request lent len) = IsRequest (words_of lent.items) (take len input)
TakesRequest input Partial = Unit {0}

-- more is asked for only of a request that has not come whole
abbrev pub WaitsForMore : List ℕ → Parsed → Type 0
WaitsForMore input (Request lent len) = Unit {0}
WaitsForMore input Partial = IsPartOfRequest input

-- a fault is this one
abbrev pub OfProtocol : (ProtocolFault → Type 0) → ParseError → Type 0
OfProtocol IsWhy OutOfMemory = Unit {0}
OfProtocol IsWhy (Protocol why) = IsWhy why
