-- Byte strings that stand one after another, each behind its length, as tables stand in the message of a result (docs/FORMATS.md, Messages).
use Rattle.std.specs.Prelude.{◌≡◌, ℕ, ◌<◌, ◌^◌, List, ◌++◌, length, Result}
use Rattle.std.specs.Int.{w32}
use Rattle.lsm_key.specs.Reading.{◌>>=◌, number_at, piece_at}
use Rattle.lsm_edit.specs.declared.format.FormatFault.{FormatFault}
use Rattle.lsm_edit.specs.declared.format.FormatFault.TheVariants.{Truncated}
use Rattle.lsm_msg.specs.Messages.{sized}

-- no byte string begins here: fewer than four bytes are left, or fewer than they say
abbrev pub BeginsNone : List ℕ → Type 0
BeginsNone rest = (text more : List ℕ) → length text < 2 ^ 32 → rest ≡ sized text ++ more → ⊥

-- the byte string at the front, and what stands behind it
unfoldable pub element_at : List ℕ → Result (List ℕ × List ℕ) FormatFault
element_at bytes = do
  n ← number_at Truncated w32 bytes
  piece_at Truncated n.0 n.1
