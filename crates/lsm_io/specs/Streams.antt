-- What is read and written, if the bytes of the streams are known (Rust, std::io::Read and Write).
use Rattle.std.specs.Prelude.{◌≡◌, ◌<◌, ◌≤◌, ℕ, Bool, true, false, List, [], ◌++◌, Option, length, take}
use Rattle.std.specs.Io.KnownBytes.{Appends, Consumes, IsAtEnd}

-- what a reader lost, at least one byte and at most `most`, was appended to the input; nothing was only at its end
abbrev pub Gains : ℕ → Option (List ℕ) → Option (List ℕ) → List ℕ → List ℕ → Bool → Type 0
Gains most before after old new true = (bytes : List ℕ) × (new ≡ old ++ bytes) × (0 < length bytes) × (length bytes ≤ most) × Consumes before after bytes
Gains most before after old new false = (new ≡ old) × Consumes before after [] × IsAtEnd after

-- a prefix is written
abbrev pub AppendsPart : Option (List ℕ) → Option (List ℕ) → List ℕ → Type 0
AppendsPart before after bytes = (k : ℕ) × Appends before after (take k bytes)
