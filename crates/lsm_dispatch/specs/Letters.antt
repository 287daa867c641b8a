-- Letters: what comes to a coordinator in a frame (RocksDB wiki, Remote Compaction: the host reports to the primary that a worker failed; the bytes are the store's own).
use Rattle.std.specs.Prelude.{◌≡◌, ◌⊎◌, ℕ, ◌≤◌, List, [], ◌∷◌}
use Rattle.lsm_key.specs.declared.limits.TheConstants.{MAX_NODES}
use Rattle.lsm_msg.specs.declared.message.Message.{Message}
use Rattle.lsm_msg.specs.Messages.{IsSpelled}
use Rattle.lsm_pipe.specs.declared.error.PipeError.{PipeError}
use Rattle.lsm_pipe.specs.declared.error.PipeError.TheVariants as pipe
use Rattle.lsm_dispatch.specs.declared.letter.Letter.{Letter}
use Rattle.lsm_dispatch.specs.declared.letter.Letter.TheVariants as letter

-- a worker's number alone says that it is gone, and with 1 behind it that it is there; all else is a message
abbrev pub IsLetter : List ℕ → Letter → Type 0
IsLetter bytes (letter.Message m) = IsSpelled bytes m
IsLetter bytes (letter.Gone index) = bytes ≡ index ∷ []
IsLetter bytes (letter.There index) = bytes ≡ index ∷ 1 ∷ []

-- they name a worker that there can't be
pub record IsNoWorker (bytes : List ℕ) : Type 0 where
  pub number : ℕ
  pub tells : (bytes ≡ number ∷ []) ⊎ (bytes ≡ number ∷ 1 ∷ [])
  pub none : (1 ≤ number) × (number ≤ MAX_NODES) → ⊥

-- why the bytes of a frame are no letter
abbrev pub NoLetter : List ℕ → PipeError → Type 0
NoLetter bytes pipe.NotMessage = IsNoWorker bytes ⊎ ((m : Message) → IsSpelled bytes m → ⊥)
NoLetter bytes pipe.OutOfMemory = Unit {0}
NoLetter bytes e = ⊥
