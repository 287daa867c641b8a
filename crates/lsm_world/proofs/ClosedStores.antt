-- A store that is closed: claims that are given back leave its vault as it was.
use Rattle.std.proofs.Common.{◌≡◌, ℕ, List, [], ◌∷◌, None, refl}
use Rattle.lsm_key.specs.declared.limits.Limits.{Limits}
use Rattle.lsm_claim.specs.declared.ending.Ending.TheVariants.{Returned}
use Rattle.lsm_claim.specs.declared.job.JobId.{JobId}
use Rattle.lsm_claim.specs.Book.{BookValue, after_settling}
use Rattle.lsm_vault.specs.Stored.{VaultValue}
use Rattle.lsm_coord.specs.Contract.Calls.{after_give_back}
use Rattle.lsm_coord.specs.Contract.Restarts.{after_returning_all, up_seat}
use Rattle.lsm_coord.specs.Contract.Seats.{SeatValue}
use Rattle.lsm_coord.specs.Contract.Value.{CoordValue}
use Rattle.lsm_world.specs.declared.store.Store.{Store}
use Rattle.lsm_world.specs.declared.store.Store.TheVariants.{Up, Down}
use Rattle.lsm_world.specs.Inner.Storing.{store_of}

-- the seats have one vault
abbrev pub HaveSameVault : SeatValue → SeatValue → Type 0
HaveSameVault old new = (new.stored ≡ old.stored) × (new.failures ≡ old.failures)

up_vault : (c : CoordValue) (ids : List JobId) → HaveSameVault (up_seat c) (after_returning_all (up_seat c) ids)
up_vault c [] = (refl, refl)
up_vault c (id ∷ ids) = up_vault (after_give_back c id) ids

-- the seat of a coordinator that is down
abbrev down : VaultValue → ℕ → BookValue → Limits → SeatValue
down stored failures book limits = record { core = None; stored = stored; failures = failures; book = book; limits = limits }

down_vault : (stored : VaultValue) (failures : ℕ) (book : BookValue) (limits : Limits) (ids : List JobId) → HaveSameVault (down stored failures book limits) (after_returning_all (down stored failures book limits) ids)
down_vault stored failures book limits [] = (refl, refl)
down_vault stored failures book limits (id ∷ ids) = down_vault stored failures (after_settling book id Returned) limits ids

-- CLAIMS THAT ARE GIVEN BACK LEAVE THE VAULT.
pub returned_vault : {V : Type 0} (store : Store V) (ids : List JobId) → HaveSameVault (store_of store).seat (after_returning_all (store_of store).seat ids)
returned_vault (Up nodes) ids = up_vault nodes.core ids
returned_vault (Down s) ids = down_vault s.stored s.failures s.book s.limits ids
