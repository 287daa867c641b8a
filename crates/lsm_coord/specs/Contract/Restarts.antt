-- What becomes of a seat when its coordinator is restarted, and when claims are given back to it (LevelDB, db_impl.cc: DBImpl::Recover).
use Rattle.std.specs.Prelude.{◌≡◌, ℕ, ◌≤◌, List, [], ◌∷◌, Option, None, Some, Result, Ok, Err}
use Rattle.lsm_claim.specs.declared.ending.Ending.TheVariants.{Returned}
use Rattle.lsm_claim.specs.declared.job.JobId.{JobId}
use Rattle.lsm_claim.specs.Book.{after_settling, new_book}
use Rattle.lsm_vault.specs.Stored.{VaultValue}
use Rattle.lsm_versions.specs.declared.error.OpenError.{OpenError}
use Rattle.lsm_versions.specs.Opening.{CountsRefusal, MayHaveDropped, OpenRefuses}
use Rattle.lsm_coord.specs.declared.seat.Seat.{Seat}
use Rattle.lsm_coord.specs.declared.seat.Seat.TheVariants as seat
use Rattle.lsm_coord.specs.Model.State.{State}
use Rattle.lsm_coord.specs.Model.Event.{Reply}
use Rattle.lsm_coord.specs.Model.Event as say
use Rattle.lsm_coord.specs.Model.Step.{Step}
use Rattle.lsm_coord.specs.Contract.Calls.{after_give_back}
use Rattle.lsm_coord.specs.Contract.Seats.{OpensCoord, SeatValue, ShowsSeat, open_refusal, restarted_reply}
use Rattle.lsm_coord.specs.Contract.Sound.{KeepsSound}
use Rattle.lsm_coord.specs.Contract.Value.{CoordValue}

-- a seat whose coordinator is up
abbrev pub up_seat : CoordValue → SeatValue
up_seat c = record { core = Some c; stored = c.stored; failures = c.failures; book = c.book; limits = c.limits }

-- what contracts see of a seat, by what they see of its vault
abbrev pub seat_of : {V : Type 0} → (V → VaultValue) → (V → ℕ) → Seat V → SeatValue
seat_of stored failures (seat.Up c) = up_seat c
seat_of stored failures (seat.Down v book limits) = record { core = None; stored = stored v; failures = failures v; book = book; limits = limits }

-- ---- a restart

-- The vault is opened in the next epoch; or it is refused for a reason, the coordinator is down, and its book has no claim.
abbrev pub Restarts : SeatValue → Result (Unit {0}) OpenError → SeatValue → Type 0
Restarts old (Ok r) new = (c : CoordValue) × OpensCoord old.stored old.limits c × (new ≡ up_seat c) × (old.failures ≤ new.failures)
Restarts old (Err why) new =
    OpenRefuses old.stored why × MayHaveDropped why old.stored new.stored × CountsRefusal why old.failures new.failures
    × (new ≡ record old { core = None; stored = new.stored; failures = new.failures; book = new_book old.book.epoch })

-- what a coordinator that is up replies to its restart
abbrev pub core_reply : Option CoordValue → Reply
core_reply None = say.Other
core_reply (Some c) = restarted_reply c

-- the result of a restart, as a reply of the model
abbrev pub restart_reply : Result (Unit {0}) OpenError → SeatValue → Reply
restart_reply (Ok r) new = core_reply new.core
restart_reply (Err why) new = say.Refused (open_refusal why)

-- For every state that the seat showed, the restart and its reply are a step to one that it shows.
abbrev pub RestartFollows : SeatValue → Result (Unit {0}) OpenError → SeatValue → Type 0
RestartFollows old answer new = (s : State) → ShowsSeat old s → (t : State) × Step s (say.Restart say.Coordinator) (restart_reply answer new) t × ShowsSeat new t

-- ---- claims

-- a claim is given back to the coordinator, or to the book that is left
abbrev pub returned_to : Option CoordValue → SeatValue → JobId → SeatValue
returned_to None old id = record old { core = None; book = after_settling old.book id Returned }
returned_to (Some c) old id = up_seat (after_give_back c id)

-- the seat after this claim is given back
abbrev pub after_return : SeatValue → JobId → SeatValue
after_return old id = returned_to old.core old id

-- claims are given back, one after another
abbrev pub after_returning_all : SeatValue → List JobId → SeatValue
after_returning_all s [] = s
after_returning_all s (id ∷ ids) = after_returning_all (after_return s id) ids

-- a coordinator that is up keeps every job sound whose claim is left live
abbrev pub CoreKeepsSound : Option CoordValue → Option CoordValue → Type 0
CoreKeepsSound None new = new ≡ None
CoreKeepsSound (Some c) new = (d : CoordValue) × (new ≡ Some d) × KeepsSound c d
