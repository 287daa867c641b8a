-- What the file of the edits holds, and that of the log, whose records stand where edits do (RocksDB, log_reader.h: a log's records, of which the last one may be cut short by a crash; the layout is the store's own).
use Rattle.std.specs.Prelude.{◌≡◌, ℕ, ◌+◌, ◌^◌, ◌<◌, true, false, List, [], ◌∷◌, ◌++◌, length, drop, IsErr}
use Rattle.lsm_file_vault.specs.Frames.{checksum, frame_at, frames, is_torn}

-- the frames of these edits take so many bytes, and no frame begins behind them
abbrev pub Begins : List ℕ → List (List ℕ) → ℕ → Type 0
Begins file edits bytes = (file ≡ frames edits ++ drop bytes file) × IsErr (frame_at (drop bytes file))

-- the edits of a file, the bytes that they take, and how many a stop left behind them of appends that were not synced
abbrev pub IsEditsFile : List ℕ → List (List ℕ) → ℕ → ℕ → Type 0
IsEditsFile file edits bytes torn = Begins file edits bytes × (is_torn (drop bytes file) ≡ true) × (bytes + torn ≡ length file)

-- at this offset, behind whole edits, stands what is no edit, and what no stop leaves
abbrev pub IsDamagedAt : List ℕ → ℕ → Type 0
IsDamagedAt file offset = ((edits : List (List ℕ)) × Begins file edits offset) × (is_torn (drop offset file) ≡ false)

-- bytes that a frame can hold: any of fewer than 2^32, since a checksum is a u64
abbrev pub Fits : List ℕ → Type 0
Fits bytes = (length bytes < 2 ^ 32) × (checksum bytes < 2 ^ 64)

-- each of them fits into a frame
abbrev pub AllFit : List (List ℕ) → Type 0
AllFit [] = Unit {0}
AllFit (bytes ∷ more) = Fits bytes × AllFit more
