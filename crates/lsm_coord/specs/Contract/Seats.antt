-- A coordinator that is opened over what a vault has, and one that is down (LevelDB, db_impl.cc: DBImpl::Recover).
use Rattle.std.specs.Prelude.{◌≡◌, ℕ, ◌≤◌, [], Option, None, Some, drop, false}
use Rattle.lsm_key.specs.declared.limits.Limits.{Limits}
use Rattle.lsm_claim.specs.Book.{BookValue, new_book}
use Rattle.lsm_edit.specs.Log.{BadLog, LogHolds}
use Rattle.lsm_edit.specs.Served.{IsServed, ServedValue}
use Rattle.lsm_edit.specs.Version.{IsVersion}
use Rattle.lsm_vault.specs.Stored.{VaultValue}
use Rattle.lsm_versions.specs.declared.error.OpenError.{OpenError}
use Rattle.lsm_versions.specs.declared.error.OpenError.TheVariants as opening
use Rattle.lsm_versions.specs.Manifest.{IsVersionSet, VersionSetValue}
use Rattle.lsm_versions.specs.Opening.{ArePlacesKept, Opens, manifest_version}
use Rattle.lsm_coord.specs.Model.State.{State, last_flushed, last_seq}
use Rattle.lsm_coord.specs.Model.Event.{Refusal, Reply}
use Rattle.lsm_coord.specs.Model.Event as say
use Rattle.lsm_coord.specs.Model.Changes.{after_stop}
use Rattle.lsm_coord.specs.Model.Step.{Step}
use Rattle.lsm_coord.specs.Contract.Logs.{IsLogged, MayCut}
use Rattle.lsm_coord.specs.Contract.Shows.{Shows, ShowsStored}
use Rattle.lsm_coord.specs.Contract.Value.{CoordValue}

-- ---- an opening

-- a coordinator of a version set alone
abbrev pub opened_coord : Limits → VersionSetValue → CoordValue
opened_coord limits v = record { limits = limits; active = []; frozen = None; served = v.served; stored = v.stored; last = v.served.version.flushed; snapshots = []; made = 0; floor = v.floor; retired = v.retired; book = new_book v.served.version.epoch; failures = v.failures }

-- A coordinator that was opened over a vault: it has a version set, the memtables have what the log holds, and from the log may be
-- cut what the tables have.
pub record OpensCoord (vault : VaultValue) (limits : Limits) (c : CoordValue) : Type 0 where
  pub versions : VersionSetValue
  pub opens : Opens vault versions
  pub set : IsVersionSet versions
  pub served : IsServed versions.served
  pub version : IsVersion versions.served.version
  pub logged : IsLogged c.active c.frozen c.last versions.served.version.flushed vault.log
  pub cut : MayCut versions.served.version.flushed vault.log c.stored.log
  pub is : c ≡ record (opened_coord limits versions) { active = c.active; frozen = c.frozen; stored = record versions.stored { log = c.stored.log }; last = c.last; failures = c.failures }
  pub counted : versions.failures ≤ c.failures

-- the reply to a restart that succeeded
abbrev pub restarted_reply : CoordValue → Reply
restarted_reply c = say.Restarted c.served.version.epoch c.served.version.number c.last

-- why a vault is not opened, as a refusal
abbrev pub open_refusal : OpenError → Refusal
open_refusal opening.OutOfMemory = say.OutOfMemory
open_refusal opening.BadManifest = say.BadManifest
open_refusal opening.MissingTable = say.MissingTable
open_refusal opening.BadLog = say.BadLog
open_refusal opening.Device = say.Device
open_refusal opening.NumbersExhausted = say.NumbersExhausted

-- a bad log is a reason before the numbers are: where they are it, the log is good
abbrev pub LogComesFirst : VaultValue → OpenError → Type 0
LogComesFirst vault opening.NumbersExhausted = BadLog (manifest_version vault.edits).flushed vault.log → ⊥
LogComesFirst vault why = Unit {0}

-- ---- down

-- A coordinator that is down shows what its vault has: what was flushed, and what its log holds after that.
pub record ShowsDown (vault : VaultValue) (s : State) : Type 0 where
  pub down : s.up ≡ false
  pub snapshots : s.snapshots ≡ []
  pub made : s.made ≡ 0
  pub flushed : last_flushed s ≤ last_seq s
  pub served : ServedValue
  pub sound : IsServed served
  pub tables : ArePlacesKept vault.tables served.places
  pub stored : ShowsStored vault.edits served s
  pub logged : LogHolds (last_flushed s) vault.log (drop (last_flushed s) s.writes) s.frozen

-- For every state that the vault shows once the coordinator has stopped, an opening is a restart to a state that the coordinator
-- shows.
abbrev pub OpenFollows : VaultValue → CoordValue → Type 0
OpenFollows vault c = (s : State) → ShowsDown vault (after_stop s) → (t : State) × Step s (say.Restart say.Coordinator) (restarted_reply c) t × Shows c t

-- For every such state, an opening that is refused is a refused restart to a state that the vault still shows.
abbrev pub OpenRefusedFollows : VaultValue → OpenError → VaultValue → Type 0
OpenRefusedFollows vault why new = (s : State) → ShowsDown vault (after_stop s) → (t : State) × Step s (say.Restart say.Coordinator) (say.Refused (open_refusal why)) t × ShowsDown new t

-- ---- a seat

-- what contracts see of a seat: the coordinator if it is up, and what outlives it
pub record SeatValue : Type 0 where
  pub core : Option CoordValue
  pub stored : VaultValue  -- what the vault has
  pub failures : ℕ  -- how often the vault's device failed
  pub book : BookValue  -- the claims of the epoch
  pub limits : Limits

-- a seat shows what its coordinator does, or what its vault has
abbrev pub CoreShows : Option CoordValue → VaultValue → State → Type 0
CoreShows (Some c) vault s = Shows c s
CoreShows None vault s = ShowsDown vault s

-- a seat shows this state of the model
abbrev pub ShowsSeat : SeatValue → State → Type 0
ShowsSeat seat s = CoreShows seat.core seat.stored s
