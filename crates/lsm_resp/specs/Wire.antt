-- The bytes of requests and replies (Redis serialization protocol specification, RESP2: simple strings, errors, integers, bulk strings, arrays).
use Rattle.std.specs.Prelude.{ℕ, List, [], ◌∷◌, ◌++◌, Option, None, Some, length}
use Rattle.std.specs.List.{flat_map}
use Rattle.std.specs.Fmt.{decimal}
use Rattle.lsm_resp.specs.declared.reply.RespReply.{RespReply}
use Rattle.lsm_resp.specs.declared.reply.RespReply.TheVariants.{Simple, Error, Integer, Bulk, Array}

-- a mark, text, a carriage return and a line feed
abbrev pub line_bytes : ℕ → List ℕ → List ℕ
line_bytes mark text = mark ∷ text ++ 13 ∷ 10 ∷ []

-- a mark and a number in decimal digits
unfoldable pub header_bytes : ℕ → ℕ → List ℕ
header_bytes mark n = line_bytes mark (decimal n)

-- a bulk string: `$`, its length, and its bytes
unfoldable pub bulk_bytes : List ℕ → List ℕ
bulk_bytes bytes = header_bytes 36 (length bytes) ++ bytes ++ 13 ∷ 10 ∷ []

-- ---- requests

-- a request: `*`, the number of its words, and each as a bulk string
unfoldable pub request_bytes : List (List ℕ) → List ℕ
request_bytes words = header_bytes 42 (length words) ++ flat_map bulk_bytes words

-- ---- replies

-- null is a bulk string of the length -1
abbrev pub bulk_or_null_bytes : Option (List ℕ) → List ℕ
bulk_or_null_bytes None = 36 ∷ 45 ∷ 49 ∷ 13 ∷ 10 ∷ []
bulk_or_null_bytes (Some bytes) = bulk_bytes bytes

abbrev pub bulks_bytes : List (Option (List ℕ)) → List ℕ
bulks_bytes values = flat_map bulk_or_null_bytes values

-- `+`, `-`, `:`, `$` and `*`
abbrev pub reply_bytes : RespReply → List ℕ
reply_bytes (Simple text) = line_bytes 43 text
reply_bytes (Error text) = line_bytes 45 text
reply_bytes (Integer n) = header_bytes 58 n
reply_bytes (Bulk value) = bulk_or_null_bytes value
reply_bytes (Array values) = header_bytes 42 (length values) ++ bulks_bytes values
