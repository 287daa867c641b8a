-- The words by which a request of HTTP is known (RFC 9110: POST, Host; the names of headers are case-insensitive).
use Rattle.std.specs.Prelude.{◌≡◌, ℕ, List, [], ◌∷◌, codes, map}
use Rattle.std.specs.Char.{to_ascii_lowercase}
use Rattle.lsm_serve.specs.declared.http_word.HttpWord.{HttpWord}
use Rattle.lsm_serve.specs.declared.http_word.HttpWord.TheVariants as http

-- the word as HTTP writes it
abbrev pub http_name : HttpWord → List ℕ
http_name http.Post = codes "POST"
http_name http.Host = codes "Host:"

-- the name is this word, in either case
abbrev pub IsHttp : List ℕ → HttpWord → Type 0
IsHttp name word = map to_ascii_lowercase name ≡ map to_ascii_lowercase (http_name word)

-- the request begins with this word
abbrev pub BeginsHttp : HttpWord → List (List ℕ) → Type 0
BeginsHttp word [] = ⊥
BeginsHttp word (name ∷ args) = IsHttp name word

-- it begins with none of them
abbrev pub IsNoHttp : List (List ℕ) → Type 0
IsNoHttp request = (word : HttpWord) → BeginsHttp word request → ⊥
