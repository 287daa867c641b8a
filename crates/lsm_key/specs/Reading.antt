-- Reading from the front, with the first fault that is met (LevelDB, coding.h; the fields are the store's own).
use Rattle.std.specs.Prelude.{◌≡◌, ℕ, zero, suc, ◌/◌, ◌%◌, ◌||◌, List, length, take, drop, Result, Ok, Err, nat_lt, ◌==◌, if◌then◌else◌}
use Rattle.std.specs.Int.{Width, w16, w64, byte_len, from_be_bytes}
use Rattle.lsm_key.specs.declared.entry.Kind.{Kind}
use Rattle.lsm_key.specs.declared.entry.Kind.TheVariants.{Delete, Put}
use Rattle.lsm_key.specs.declared.refused.Refused.{Refused}
use Rattle.lsm_key.specs.declared.refused.Refused.TheVariants.{OutOfMemory, Fault}

-- one reader after another
infixl 10 ◌>>=◌
abbrev pub ◌>>=◌ : {A B F : Type 0} → Result A F → (A → Result B F) → Result B F
(Ok x) >>= f = f x
(Err e) >>= f = Err e

-- a refusal is the fault that reading gives, unless memory ran out
abbrev pub Fails : {Y F : Type 0} → Refused F → Result Y F → Type 0
Fails OutOfMemory read = Unit {0}
Fails (Fault f) read = read ≡ Err f

-- what a function returned, through view, is what reading gives, unless memory ran out
abbrev pub Gives : {X Y F : Type 0} → (X → Y) → Result X (Refused F) → Result Y F → Type 0
Gives view (Ok x) read = read ≡ Ok (view x)
Gives view (Err e) read = Fails e read

-- what a reader of borrowed bytes returned, through view, is what reading gives
abbrev pub Reads : {X Y F : Type 0} → (X → Y) → Result X F → Result Y F → Type 0
Reads view (Ok x) read = read ≡ Ok (view x)
Reads view (Err e) read = read ≡ Err e

-- a number and the bytes after it
abbrev pub number_at : {F : Type 0} → F → Width → List ℕ → Result (ℕ × List ℕ) F
number_at short w bytes =
    if nat_lt (length bytes) (byte_len w) then Err short
    else Ok (from_be_bytes w (take (byte_len w) bytes), drop (byte_len w) bytes)

-- a number of a range
abbrev pub ranged_number_at : {F : Type 0} → F → F → Width → ℕ → ℕ → List ℕ → Result (ℕ × List ℕ) F
ranged_number_at short bad w low high bytes = number_at short w bytes >>= λ n. if nat_lt n.0 low || nat_lt high n.0 then Err bad else Ok n

-- n bytes and the bytes after them
abbrev pub piece_at : {F : Type 0} → F → ℕ → List ℕ → Result (List ℕ × List ℕ) F
piece_at short n bytes = if nat_lt (length bytes) n then Err short else Ok (take n bytes, drop n bytes)

-- the bytes after a number that is known
abbrev pub fixed_at : {F : Type 0} → F → F → Width → ℕ → List ℕ → Result (List ℕ) F
fixed_at short bad w n bytes = number_at short w bytes >>= λ x. if x.0 == n then Ok x.1 else Err bad

-- one fault for each of another reader's
abbrev pub instead : {A E F : Type 0} → F → Result A E → Result A F
instead f (Ok x) = Ok x
instead f (Err e) = Err f

-- a key of at most limit bytes; the fault is short if the bytes end, and bad if the length is out of range
unfoldable pub key_at : {F : Type 0} → ℕ → F → F → List ℕ → Result (List ℕ × List ℕ) F
key_at limit short bad bytes = do
  n ← number_at short w16 bytes
  if n.0 == 0 || nat_lt limit n.0 then Err bad else piece_at short n.0 n.1

-- the kind of a code in a trailer, or the fault if it is no kind's
abbrev pub kind_at : {F : Type 0} → F → ℕ → Result Kind F
kind_at bad zero = Ok Delete
kind_at bad (suc zero) = Ok Put
kind_at bad (suc (suc n)) = Err bad

-- a sequence of at least 1, and a kind
unfoldable pub trailer_at : {F : Type 0} → F → F → List ℕ → Result ((ℕ × Kind) × List ℕ) F
trailer_at short bad bytes = do
  n ← number_at short w64 bytes
  kind ← kind_at bad (n.0 % 256)
  if n.0 / 256 == 0 then Err bad else Ok ((n.0 / 256, kind), n.1)
