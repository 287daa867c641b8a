-- What a command of one call writes (LevelDB, db.h: Get, NewIterator; the lines are the store's own).
use Rattle.std.specs.Prelude.{◌≡◌, ℕ, ◌-◌, ◌^◌, ◌/◌, ◌%◌, Bool, List, [], ◌∷◌, ◌++◌, Option, None, Some, Ok, codes, is_some, replicate}
use Rattle.std.specs.List.{flat_map}
use Rattle.std.specs.Io.KnownBytes.{Appends}
use Rattle.lsm_key.specs.declared.op.Op.{Op}
use Rattle.lsm_key.specs.declared.op.Op.TheVariants as op
use Rattle.lsm_coord.specs.Contract.Value.{CoordValue}
use Rattle.lsm_line.specs.Commands.{key_or_value}
use Rattle.lsm_line.specs.Lines.{bytes_text, hex_digit, wrote_text}
use Rattle.lsm_store.specs.Store.{Accepts, ReadsRange, ReadsValue}
use Rattle.lsm_commands.specs.Sessions.{HaveNextSequences}
use Rattle.lsm_commands.specs.declared.once.Once.{Once}
use Rattle.lsm_commands.specs.declared.once.Once.TheVariants as once
use Rattle.lsm_commands.specs.declared.once.work.Work.{Work}
use Rattle.lsm_commands.specs.declared.once.work.Work.TheVariants as work
use Rattle.lsm_commands.specs.declared.once.Form.{Form}
use Rattle.lsm_commands.specs.declared.once.Form.TheVariants as form
use Rattle.lsm_commands.specs.declared.once.pairs.PairRange.{PairRange}

-- two hexadecimal digits
abbrev pub hex_text : ℕ → List ℕ
hex_text byte = hex_digit (byte / 16) ∷ hex_digit (byte % 16) ∷ []

-- a value as its bytes, or as a line of two hexadecimal digits a byte; no value is no bytes
abbrev pub value_text : Form → Option (List ℕ) → List ℕ
value_text form None = []
value_text form.Bytes (Some value) = value
value_text form.Hex (Some value) = flat_map hex_text value ++ 10 ∷ []

-- the value that the operations leave of a key, if there is one, is appended
abbrev pub WritesValue : CoordValue → List ℕ → Form → Option (List ℕ) → Option (List ℕ) → Bool → Type 0
WritesValue c key form held holds found =
    (value : Option (List ℕ)) × ReadsValue c key None value × (found ≡ is_some value) × Appends held holds (value_text form value)

-- an operation is accepted, and the line of its sequence appended
abbrev pub WritesSequence : CoordValue → Op → CoordValue → Option (List ℕ) → Option (List ℕ) → Type 0
WritesSequence old op new held holds =
    (first : ℕ) × (last : ℕ) × HaveNextSequences old (op ∷ []) first last × Accepts old (op ∷ []) new × Appends held holds (wrote_text first last ++ 10 ∷ [])

-- the line of a pair
abbrev pub pair_line : List ℕ → List ℕ × List ℕ → List ℕ
pair_line head pair = head ++ bytes_text pair.0 ++ codes " " ++ bytes_text pair.1 ++ 10 ∷ []

-- the first pairs of a range that the operations leave, a line for each, are appended
abbrev pub WritesPairs : CoordValue → PairRange → Option (List ℕ) → Option (List ℕ) → Type 0
WritesPairs c range held holds =
    (pairs : List (List ℕ × List ℕ)) × ReadsRange c range.lo range.hi None range.limit pairs × Appends held holds (flat_map (pair_line range.head.now) pairs)

-- from the least key to one that is longer than any, and as many as are counted: each pair that a store has
pub record IsOfAll (range : PairRange) : Type 0 where
  pub lo : range.lo ≡ []
  pub hi : range.hi ≡ replicate 4097 255
  pub limit : range.limit ≡ 2 ^ 64 - 1
  pub head : range.head.now ≡ codes "put "

-- What a command does, once its words are read: each word is the bytes that it spells.
abbrev pub IsWorkOf : Once → Work → Type 0
IsWorkOf (once.Get key form) (work.Get bytes as_form) = (key_or_value key.now ≡ Ok bytes) × (as_form ≡ form)
IsWorkOf (once.Put key value) (work.Write (op.Put bytes held)) = (key_or_value key.now ≡ Ok bytes) × (key_or_value value.now ≡ Ok held)
IsWorkOf (once.Delete key) (work.Write (op.Delete bytes)) = key_or_value key.now ≡ Ok bytes
IsWorkOf (once.Scan lo hi limit) (work.Pairs range) = (key_or_value lo.now ≡ Ok range.lo) × (key_or_value hi.now ≡ Ok range.hi) × (range.limit ≡ limit) × (range.head.now ≡ [])
IsWorkOf once.Stats work.Stats = Unit {0}
IsWorkOf once.Compact work.Compact = Unit {0}
IsWorkOf once.Export (work.Pairs range) = IsOfAll range
IsWorkOf once.Import work.Import = Unit {0}
IsWorkOf asked done = ⊥
