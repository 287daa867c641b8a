-- What lies ahead behind the header of a word, and of a request.
use Rattle.std.proofs.Common.{◌≡◌, ℕ, ◌+◌, ◌≤◌, ◌<◌, List, [], ◌∷◌, ◌++◌, length, take, drop, get_or, inr, sym, ap, ◌∙◌, append_assoc, arith, length-append, subst}
use Rattle.std.proofs.lemmas.List.{get_or-append-add, take-append-drop}
use Rattle.std.proofs.Math.Seq.{get_or-append_seam, take-add}
use Rattle.std.specs.List.{flat_map}
use Rattle.std.specs.Fmt.{decimal}
use Rattle.lsm_resp.specs.declared.fault.ParseError.{ParseError}
use Rattle.lsm_resp.specs.declared.fault.ParseError.TheVariants.{OutOfMemory, Protocol}
use Rattle.lsm_resp.specs.declared.fault.ProtocolFault.TheVariants.{BadLength, LineTooLong, NoBulk, NoLineEnd, RequestTooLong, TooManyWords, WordTooLong}
use Rattle.lsm_resp.specs.declared.limits.TheConstants.{MAX_WORDS}
use Rattle.lsm_resp.specs.Outcomes.{IsFault, IsFaultOfWords, OfProtocol}
use Rattle.lsm_resp.specs.Requests.{IsAhead}
use Rattle.lsm_resp.specs.Wire.{bulk_bytes, header_bytes, request_bytes}
use Rattle.lsm_resp.proofs.Ahead.{ahead_rest, ahead_front, ahead_take, ahead_at}

-- the first byte is the mark
pub mark_is : (mark n : ℕ) (input : List ℕ) → IsAhead (header_bytes mark n) input → 0 < length input → get_or input 0 0 ≡ mark
unfolding header_bytes
mark_is mark n input h some = ahead_at (mark ∷ (decimal n ++ 13 ∷ 10 ∷ [])) input 0 h (omega arith) some

-- ---- bytes with a line end behind them

pub line_end : (bytes input : List ℕ) (len : ℕ) → len ≡ length bytes → IsAhead (bytes ++ 13 ∷ 10 ∷ []) input → len + 2 ≤ length input → (get_or input len 0 ≡ 13) × (get_or input (len + 1) 0 ≡ 10)
line_end bytes input len e ahead come =
    let sum = length-append bytes (13 ∷ 10 ∷ []) in (
      ap (λ (i : ℕ). get_or input i 0) e ∙ ahead_at (bytes ++ 13 ∷ 10 ∷ []) input (length bytes) ahead (omega arith) (omega arith) ∙ get_or-append_seam bytes 13 (10 ∷ []) 0,
      ap (λ (i : ℕ). get_or input (i + 1) 0) e ∙ ahead_at (bytes ++ 13 ∷ 10 ∷ []) input (length bytes + 1) ahead (omega arith) (omega arith) ∙ get_or-append-add bytes (13 ∷ 10 ∷ []) 1 0,
    )

pub bytes_are : (bytes input : List ℕ) (len : ℕ) → len ≡ length bytes → IsAhead (bytes ++ 13 ∷ 10 ∷ []) input → len + 2 ≤ length input → take len input ≡ bytes
bytes_are bytes input len e ahead come = ap (λ (i : ℕ). take i input) e ∙ ahead_take bytes input (ahead_front bytes (13 ∷ 10 ∷ []) input ahead) (omega arith)

-- ---- a word

bulk_is : (word : List ℕ) → bulk_bytes word ≡ header_bytes 36 (length word) ++ (word ++ 13 ∷ 10 ∷ [])
unfolding bulk_bytes
bulk_is word = append_assoc (header_bytes 36 (length word)) word (13 ∷ 10 ∷ [])

bulk_ahead : (word input : List ℕ) → IsAhead (bulk_bytes word) input → IsAhead (header_bytes 36 (length word) ++ (word ++ 13 ∷ 10 ∷ [])) input
bulk_ahead word input h = subst (λ (xs : List ℕ). IsAhead xs input) (bulk_is word) h

pub bulk_front : (word input : List ℕ) → IsAhead (bulk_bytes word) input → IsAhead (header_bytes 36 (length word)) input
bulk_front word input h = ahead_front (header_bytes 36 (length word)) (word ++ 13 ∷ 10 ∷ []) input (bulk_ahead word input h)

pub bulk_rest : (word input : List ℕ) (len : ℕ) → len ≡ length (header_bytes 36 (length word)) → len ≤ length input → IsAhead (bulk_bytes word) input → IsAhead (word ++ 13 ∷ 10 ∷ []) (drop len input)
bulk_rest word input len e few h = subst (λ (i : ℕ). IsAhead (word ++ 13 ∷ 10 ∷ []) (drop i input)) (sym e) (ahead_rest (header_bytes 36 (length word)) (word ++ 13 ∷ 10 ∷ []) input (bulk_ahead word input h) (omega arith))

pub bulk_len : (word : List ℕ) → length (bulk_bytes word) ≡ length (header_bytes 36 (length word)) + (length word + 2)
bulk_len word = omega (arith, ap (λ (xs : List ℕ). length xs) (bulk_is word), length-append (header_bytes 36 (length word)) (word ++ 13 ∷ 10 ∷ []), length-append word (13 ∷ 10 ∷ []))

-- a word that has come whole
pub bulk_read : (word input : List ℕ) (len n : ℕ) → length word ≡ n → get_or input 0 0 ≡ 36 → take len input ≡ header_bytes (get_or input 0 0) n → take (n + 2) (drop len input) ≡ word ++ 13 ∷ 10 ∷ [] → take (len + (n + 2)) input ≡ bulk_bytes word
bulk_read word input len n e mark front back =
    take-add len (n + 2) input ∙ ap (λ (xs : List ℕ). xs ++ take (n + 2) (drop len input)) front ∙ ap (λ (xs : List ℕ). header_bytes (get_or input 0 0) n ++ xs) back
    ∙ ap (λ (m : ℕ). header_bytes m n ++ (word ++ 13 ∷ 10 ∷ [])) mark ∙ ap (λ (k : ℕ). header_bytes 36 k ++ (word ++ 13 ∷ 10 ∷ [])) (sym e) ∙ sym (bulk_is word)

-- what is read, and the rest
pub read_front : (front input : List ℕ) (len : ℕ) → take len input ≡ front → input ≡ front ++ drop len input
read_front front input len is = sym (take-append-drop len input) ∙ ap (λ (xs : List ℕ). xs ++ drop len input) is

-- ---- a request

pub request_front : (words : List (List ℕ)) (input : List ℕ) → IsAhead (request_bytes words) input → IsAhead (header_bytes 42 (length words)) input
unfolding request_bytes
request_front words input h = ahead_front (header_bytes 42 (length words)) (flat_map bulk_bytes words) input h

pub request_rest : (words : List (List ℕ)) (input : List ℕ) (len : ℕ) → len ≡ length (header_bytes 42 (length words)) → len ≤ length input → IsAhead (request_bytes words) input → IsAhead (flat_map bulk_bytes words) (drop len input)
unfolding request_bytes
request_rest words input len e few h = subst (λ (i : ℕ). IsAhead (flat_map bulk_bytes words) (drop i input)) (sym e) (ahead_rest (header_bytes 42 (length words)) (flat_map bulk_bytes words) input h (omega arith))

pub request_len : (words : List (List ℕ)) → length (request_bytes words) ≡ length (header_bytes 42 (length words)) + length (flat_map bulk_bytes words)
unfolding request_bytes
request_len words = length-append (header_bytes 42 (length words)) (flat_map bulk_bytes words)

-- a request has a byte
pub request_some : (words : List (List ℕ)) → 0 < length (request_bytes words)
unfolding request_bytes header_bytes
request_some words = omega arith

-- ---- the other way round

-- a header and the bytes behind it
pub request_read : (words : List (List ℕ)) (input : List ℕ) (len more n : ℕ) → length words ≡ n → take len input ≡ header_bytes 42 n → take more (drop len input) ≡ flat_map bulk_bytes words → take (len + more) input ≡ request_bytes words
unfolding request_bytes
request_read words input len more n e front back =
    take-add len more input ∙ ap (λ (xs : List ℕ). xs ++ take more (drop len input)) front ∙ ap (λ (xs : List ℕ). header_bytes 42 n ++ xs) back
    ∙ ap (λ (k : ℕ). header_bytes 42 k ++ flat_map bulk_bytes words) (sym e)

-- the fault of the words is that of the request
pub fault_of_words : (input : List ℕ) (n : ℕ) (bytes : List ℕ) (why : ParseError) → n ≤ MAX_WORDS → input ≡ header_bytes 42 n ++ bytes → OfProtocol (IsFaultOfWords n bytes) why → OfProtocol (IsFault input) why
fault_of_words input n bytes OutOfMemory few is h = tt
fault_of_words input n bytes (Protocol BadLength) few is h = inr (n, bytes, few, is, h)
fault_of_words input n bytes (Protocol TooManyWords) few is (words, rest, passed, h) = absurd h
fault_of_words input n bytes (Protocol WordTooLong) few is h = (n, bytes, few, is, h)
fault_of_words input n bytes (Protocol RequestTooLong) few is h = (n, bytes, few, is, h)
fault_of_words input n bytes (Protocol NoBulk) few is h = (n, bytes, few, is, h)
fault_of_words input n bytes (Protocol NoLineEnd) few is h = (n, bytes, few, is, h)
fault_of_words input n bytes (Protocol LineTooLong) few is (words, rest, passed, h) = absurd h
