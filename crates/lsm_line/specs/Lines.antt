-- The lines that a store's answers print, and the words in them (the store's own output format, one line an answer).
use Rattle.std.specs.Prelude.{ℕ, ◌+◌, ◌/◌, ◌%◌, ◌==◌, ◌&&◌, ◌||◌, not, Bool, List, [], ◌∷◌, ◌++◌, Option, None, Some, codes, length, map, filter, nat_lt, if◌then◌else◌}
use Rattle.std.specs.List.{flat_map, join_with_byte}
use Rattle.std.specs.Fmt.{decimal}
use Rattle.lsm_coord.specs.declared.snapshot.SnapId.{SnapId}
use Rattle.lsm_coord.specs.Model.State.{Place}
use Rattle.lsm_coord.specs.Model.Event as say
use Rattle.lsm_line.specs.Tokens.{byte_between}

-- a hexadecimal digit, in lower case
abbrev pub hex_digit : ℕ → ℕ
hex_digit n = if nat_lt n 10 then 48 + n else 87 + n

-- a printable byte other than the percent sign, the quote and the equals sign prints as itself
abbrev pub prints_as_itself : ℕ → Bool
prints_as_itself byte = byte_between 33 126 byte && not (byte == 37 || byte == 34 || byte == 61)

-- a byte as a line has it: itself, or a percent sign and two hexadecimal digits
abbrev pub byte_text : ℕ → List ℕ
byte_text byte = if prints_as_itself byte then byte ∷ [] else 37 ∷ hex_digit (byte / 16) ∷ hex_digit (byte % 16) ∷ []

-- a key or value; the empty text is two quotes
abbrev pub bytes_text : List ℕ → List ℕ
bytes_text [] = 34 ∷ 34 ∷ []
bytes_text (byte ∷ bytes) = flat_map byte_text (byte ∷ bytes)

-- an accepted batch: the sequence of its first operation, and of its last one if that is another
abbrev pub wrote_text : ℕ → ℕ → List ℕ
wrote_text first last = codes "seq " ++ decimal first ++ (if first == last then [] else codes "-" ++ decimal last)

-- numbers with commas between them
abbrev pub numbers_text : List ℕ → List ℕ
numbers_text numbers = join_with_byte 44 (map decimal numbers)

-- an epoch and a number, with a point between them: the name of a snapshot or a job
abbrev pub name_text : ℕ → ℕ → List ℕ
name_text epoch number = decimal epoch ++ codes "." ++ decimal number

-- a new snapshot: its name, and the sequence that it reads at
abbrev pub snapped_text : SnapId → ℕ → List ℕ
snapped_text id seq = codes "snapshot " ++ name_text id.epoch id.number ++ codes " at " ++ decimal seq

-- a released snapshot: its name
abbrev pub released_text : SnapId → List ℕ
released_text id = codes "released " ++ name_text id.epoch id.number

-- the value of a key, or that it has none
abbrev pub got_text : Option (List ℕ) → List ℕ
got_text None = codes "none"
got_text (Some value) = codes "value " ++ bytes_text value

-- a key and its value
abbrev pub pair_text : List ℕ × List ℕ → List ℕ
pair_text pair = codes " " ++ bytes_text pair.0 ++ codes "=" ++ bytes_text pair.1

-- how many there are, and each of them
abbrev pub scanned_text : List (List ℕ × List ℕ) → List ℕ
scanned_text pairs = codes "range " ++ decimal (length pairs) ++ flat_map pair_text pairs

-- the files of a level, in the order of the listing
abbrev pub level_files : ℕ → List Place → List ℕ
level_files level places = map (λ p. p.file) (filter (λ p. p.level == level) places)

-- a level with files: its digit and their numbers
abbrev pub level_text : ℕ → List ℕ → List ℕ
level_text level [] = []
level_text level (file ∷ files) = codes " L" ++ decimal level ++ codes " " ++ numbers_text (file ∷ files)

-- these levels, in turn
abbrev pub levels_text : List Place → List ℕ → List ℕ
levels_text places levels = flat_map (λ level. level_text level (level_files level places)) levels

-- a listing: the number of the version, its flushed sequence, and the files of each level
abbrev pub shown_text : ℕ → ℕ → List Place → List ℕ
shown_text number seq places =
    codes "show " ++ decimal number ++ codes " flushed " ++ decimal seq ++ levels_text places (0 ∷ 1 ∷ 2 ∷ 3 ∷ 4 ∷ 5 ∷ 6 ∷ [])

-- the name of a refusal
abbrev pub name_of : say.Refusal → List ℕ
name_of say.EmptyKey = codes "EmptyKey"
name_of say.KeyTooLong = codes "KeyTooLong"
name_of say.ValueTooLong = codes "ValueTooLong"
name_of say.BatchFull = codes "BatchFull"
name_of say.BadManifest = codes "BadManifest"
name_of say.MissingTable = codes "MissingTable"
name_of say.BadLog = codes "BadLog"
name_of say.Device = codes "Device"
name_of say.SequenceExhausted = codes "SequenceExhausted"
name_of say.FrozenWaiting = codes "FrozenWaiting"
name_of say.NothingToFreeze = codes "NothingToFreeze"
name_of say.NothingToFlush = codes "NothingToFlush"
name_of say.TooManySnapshots = codes "TooManySnapshots"
name_of say.NoSnapshot = codes "NoSnapshot"
name_of say.WrongJob = codes "WrongJob"
name_of say.BadResult = codes "BadResult"
name_of say.MemtableFull = codes "MemtableFull"
name_of say.EmptyBatch = codes "EmptyBatch"
name_of say.BookFull = codes "BookFull"
name_of say.TooWide = codes "TooWide"
name_of say.BadFloor = codes "BadFloor"
name_of say.NumbersExhausted = codes "NumbersExhausted"
name_of say.Down = codes "Down"
name_of say.Busy = codes "Busy"
name_of say.NoClaim = codes "NoClaim"
name_of say.OldEpoch = codes "OldEpoch"
name_of say.NoMessage = codes "NoMessage"
name_of say.OutOfMemory = codes "OutOfMemory"

-- a refused event: the name of its refusal
abbrev pub refused_text : say.Refusal → List ℕ
refused_text why = codes "refused " ++ name_of why

-- a line ends with a line feed
abbrev pub as_line : List ℕ → List ℕ
as_line text = text ++ 10 ∷ []
