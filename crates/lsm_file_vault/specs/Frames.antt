-- A frame: how an edit and a table stand in their files (RocksDB, db/log_format.h: a checksum and a length before the bytes; the layout is the store's own).
use Rattle.std.specs.Prelude.{◌≡◌, ℕ, ◌+◌, ◌-◌, ◌^◌, Bool, ◌==◌, ◌||◌, ◌&&◌, nat_lt, List, [], ◌∷◌, ◌++◌, length, take, drop, Option, Some, None, Result, Ok, Err, IsErr, if◌then◌else◌}
use Rattle.std.specs.List.{list_all}
use Rattle.std.specs.Int.{w32, w64, to_be_bytes, from_be_bytes}
use Rattle.std.specs.Hash.DefaultHasher as sip
use Rattle.lsm_key.specs.Reading.{◌>>=◌, number_at, fixed_at, piece_at}
use Rattle.lsm_file_vault.specs.declared.frame.FrameFault.{FrameFault}
use Rattle.lsm_file_vault.specs.declared.frame.FrameFault.TheVariants.{Truncated, BadLength, BadChecksum}

-- SipHash-1-3 under keys of zero
abbrev pub checksum : List ℕ → ℕ
checksum bytes = sip.finish (sip.write sip.initial bytes)

-- each bit of a u32 turned
abbrev pub turned : ℕ → ℕ
turned n = 2 ^ 32 - 1 - n

-- four bytes of length, the same turned, eight bytes of checksum, and the bytes
abbrev pub header_of : List ℕ → List ℕ
header_of bytes = to_be_bytes w32 (length bytes) ++ to_be_bytes w32 (turned (length bytes)) ++ to_be_bytes w64 (checksum bytes)

-- the frame of these bytes: the header, and the bytes
abbrev pub frame : List ℕ → List ℕ
frame bytes = header_of bytes ++ bytes

-- the bytes of the first frame, and what stands behind it
unfoldable pub frame_at : List ℕ → Result (List ℕ × List ℕ) FrameFault
frame_at file = do
  n ← number_at Truncated w32 file
  after_length ← fixed_at Truncated BadLength w32 (turned n.0) n.1
  sum ← number_at Truncated w64 after_length
  held ← piece_at Truncated n.0 sum.1
  if sum.0 == checksum held.0 then Ok held else Err BadChecksum

-- the bytes of a frame with nothing behind it
abbrev pub alone : Result (List ℕ × List ℕ) FrameFault → Option (List ℕ)
alone (Ok (bytes, [])) = Some bytes
alone (Ok (bytes, b ∷ rest)) = None
alone (Err fault) = None

-- the bytes of a file that is one frame and nothing else
abbrev pub only_frame_at : List ℕ → Option (List ℕ)
only_frame_at file = alone (frame_at file)

-- frames one after another
abbrev pub frames : List (List ℕ) → List ℕ
frames [] = []
frames (bytes ∷ more) = frame bytes ++ frames more

-- from the front of a file a frame was taken, or there is none and nothing was taken
abbrev pub TakesFrame : Option (List ℕ) → List ℕ → List ℕ → Type 0
TakesFrame (Some bytes) before after = before ≡ frame bytes ++ after
TakesFrame None before after = (after ≡ before) × IsErr (frame_at before)

-- the length that a header claims
abbrev pub claimed : List ℕ → ℕ
claimed rest = from_be_bytes w32 (take 4 rest)

-- a length and its complement agree, and behind where the frame would end there are zeros alone, or nothing
abbrev pub ends_in_zeros : List ℕ → Bool
ends_in_zeros rest = from_be_bytes w32 (take 4 (drop 4 rest)) == turned (claimed rest) && list_all (λ b. b == 0) (drop (16 + claimed rest) rest)

-- what a stop may leave of appends that were not synced, where no frame begins: less than a header, zeros from the checksum on, or a frame that was cut short or has lost bytes, and no other behind it
abbrev pub is_torn : List ℕ → Bool
is_torn rest = nat_lt (length rest) 16 || list_all (λ b. b == 0) (drop 8 rest) || ends_in_zeros rest
