-- What is found of the pieces of a request, by the bytes that have come (Redis serialization protocol specification, RESP2).
use Rattle.std.specs.Prelude.{◌≡◌, ◌⊎◌, ℕ, ◌<◌, ◌≤◌, ◌^◌, ◌+◌, List, [], ◌∷◌, ◌++◌, Option, None, Some, Result, Ok, Err, get_or, length}
use Rattle.std.specs.Borrow.{Bor}
use Rattle.std.specs.List.{flat_map}
use Rattle.std.specs.Fmt.{decimal}
use Rattle.lsm_resp.specs.declared.limits.TheConstants.{MAX_WORD_BYTES}
use Rattle.lsm_resp.specs.declared.bulk.Bulk.{Bulk}
use Rattle.lsm_resp.specs.declared.bulk.Bulks.{Bulks}
use Rattle.lsm_resp.specs.declared.fault.ParseError.{ParseError}
use Rattle.lsm_resp.specs.declared.fault.ParseError.TheVariants.{OutOfMemory, Protocol}
use Rattle.lsm_resp.specs.declared.fault.ProtocolFault.{ProtocolFault}
use Rattle.lsm_resp.specs.declared.header.Header.{Header}
use Rattle.lsm_resp.specs.Requests.{AreWords, IsAhead, words_of}
use Rattle.lsm_resp.specs.Wire.{bulk_bytes, header_bytes, request_bytes}

-- one digit, or digits with neither a sign nor a zero in front
abbrev pub IsPlainNumber : List ℕ → Type 0
IsPlainNumber digits = (length digits ≡ 1) ⊎ (48 < get_or digits 0 0)

abbrev pub ReadsNumber : List ℕ → Option ℕ → Type 0
ReadsNumber digits found = (n : ℕ) → n < 2 ^ 64 → digits ≡ decimal n → found ≡ Some n

-- of a number that is announced
abbrev pub FindsNumber : List ℕ → ℕ → ℕ → Result (Option Header) ProtocolFault → Type 0
FindsNumber input mark n (Ok (Some header)) = (header.number ≡ n) × (header.len ≡ length (header_bytes mark n))
FindsNumber input mark n (Ok None) = length input < length (header_bytes mark n)
FindsNumber input mark n (Err why) = ⊥

abbrev pub FindsHeader : List ℕ → Result (Option Header) ProtocolFault → Type 0
FindsHeader input found = (mark n : ℕ) → n < 2 ^ 64 → IsAhead (header_bytes mark n) input → FindsNumber input mark n found

-- of bytes with a line end behind them
abbrev pub FindsAllBytes : List ℕ → List ℕ → Result (Option (Bor (List ℕ))) ProtocolFault → Type 0
FindsAllBytes input bytes (Ok (Some found)) = found.now ≡ bytes
FindsAllBytes input bytes (Ok None) = length input < length bytes + 2
FindsAllBytes input bytes (Err why) = ⊥

abbrev pub FindsBytes : List ℕ → ℕ → Result (Option (Bor (List ℕ))) ProtocolFault → Type 0
FindsBytes input len found = (bytes : List ℕ) → len ≡ length bytes → IsAhead (bytes ++ 13 ∷ 10 ∷ []) input → FindsAllBytes input bytes found

-- of a word
abbrev pub FindsWord : List ℕ → List ℕ → Result (Option Bulk) ProtocolFault → Type 0
FindsWord input word (Ok (Some bulk)) = (bulk.word.now ≡ word) × (bulk.len ≡ length (bulk_bytes word))
FindsWord input word (Ok None) = length input < length (bulk_bytes word)
FindsWord input word (Err why) = ⊥

abbrev pub FindsBulk : List ℕ → Result (Option Bulk) ProtocolFault → Type 0
FindsBulk input found = (word : List ℕ) → length word ≤ MAX_WORD_BYTES → IsAhead (bulk_bytes word) input → FindsWord input word found

-- of the words of a request, by their bytes
abbrev pub FindsAll : List ℕ → List (List ℕ) → List ℕ → Result (Option Bulks) ParseError → Type 0
FindsAll input words bytes (Ok (Some bulks)) = (words_of bulks.words.items ≡ words) × (bulks.len ≡ length bytes)
FindsAll input words bytes (Ok None) = length input < length bytes
FindsAll input words bytes (Err OutOfMemory) = Unit {0}
FindsAll input words bytes (Err (Protocol why)) = ⊥

abbrev pub FindsBulks : List ℕ → ℕ → Result (Option Bulks) ParseError → Type 0
FindsBulks input count found =
    (words : List (List ℕ)) → AreWords words → count ≡ length words → IsAhead (flat_map bulk_bytes words) input
    → FindsAll input words (flat_map bulk_bytes words) found

abbrev pub FindsArray : List ℕ → Result (Option Bulks) ParseError → Type 0
FindsArray input found = (words : List (List ℕ)) → AreWords words → IsAhead (request_bytes words) input → FindsAll input words (request_bytes words) found
