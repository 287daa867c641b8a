-- The coordinator's answers as replies.
use Rattle.std.specs.Prelude.{ℕ, Vec, List, Option, Result, Ok, Err, map}
use Rattle.lsm_claim.specs.declared.job.LiveJob.{LiveJob}
use Rattle.lsm_msg.specs.declared.job.JobParts.{JobParts}
use Rattle.lsm_edit.specs.declared.served.Listing.{Listing}
use Rattle.lsm_vault.specs.declared.error.VaultError.{VaultError}
use Rattle.lsm_vault.specs.declared.error.VaultError.TheVariants as vault
use Rattle.lsm_coord.specs.declared.error.CoordError.{CoordError}
use Rattle.lsm_coord.specs.declared.error.CoordError.TheVariants as error
use Rattle.lsm_coord.specs.declared.coord.flush.Flushed.{Flushed}
use Rattle.lsm_coord.specs.declared.coord.install.Install.{Install}
use Rattle.lsm_coord.specs.declared.coord.install.Install.TheVariants as became
use Rattle.lsm_coord.specs.declared.coord.install.InstallError.{InstallError}
use Rattle.lsm_coord.specs.declared.coord.install.InstallError.TheVariants as kept
use Rattle.lsm_coord.specs.declared.snapshot.SnapId.{SnapId}
use Rattle.lsm_coord.specs.Model.Event.{Refusal, Reply}
use Rattle.lsm_coord.specs.Model.Event as say
use Rattle.lsm_coord.specs.Contract.Shows.{place_of}

-- an error, as a refusal of the model
abbrev pub refusal_of : CoordError → Refusal
refusal_of error.BadManifest = say.BadManifest
refusal_of error.MissingTable = say.MissingTable
refusal_of error.BadLog = say.BadLog
refusal_of error.Device = say.Device
refusal_of error.SequenceExhausted = say.SequenceExhausted
refusal_of error.FrozenWaiting = say.FrozenWaiting
refusal_of error.NothingToFreeze = say.NothingToFreeze
refusal_of error.NothingToFlush = say.NothingToFlush
refusal_of error.TooManySnapshots = say.TooManySnapshots
refusal_of error.NoSnapshot = say.NoSnapshot
refusal_of error.WrongJob = say.WrongJob
refusal_of error.BadResult = say.BadResult
refusal_of error.MemtableFull = say.MemtableFull
refusal_of error.EmptyBatch = say.EmptyBatch
refusal_of error.BookFull = say.BookFull
refusal_of error.TooWide = say.TooWide
refusal_of error.BadFloor = say.BadFloor
refusal_of error.NumbersExhausted = say.NumbersExhausted
refusal_of error.OutOfMemory = say.OutOfMemory

-- why a result is refused, as a refusal of the coordinator
abbrev pub error_of : InstallError → CoordError
error_of kept.WrongJob = error.WrongJob
error_of kept.BadResult = error.BadResult
error_of kept.NumbersExhausted = error.NumbersExhausted
error_of kept.OutOfMemory = error.OutOfMemory
error_of kept.Device = error.Device

-- why a vault refuses a call, as a refusal of the coordinator
abbrev pub call_error : VaultError → CoordError
call_error vault.OutOfMemory = error.OutOfMemory
call_error vault.Device = error.Device

-- why a vault refuses a call, as a refusal of a result
abbrev pub install_error : VaultError → InstallError
install_error vault.OutOfMemory = kept.OutOfMemory
install_error vault.Device = kept.Device

-- the result of a write, as a reply of the model
abbrev pub write_reply : Result (ℕ × ℕ) CoordError → Reply
write_reply (Ok r) = say.Wrote r.0 r.1
write_reply (Err e) = say.Refused (refusal_of e)

-- the result of a freeze, as a reply of the model
abbrev pub freeze_reply : Result ℕ CoordError → Reply
freeze_reply (Ok seq) = say.Froze seq
freeze_reply (Err e) = say.Refused (refusal_of e)

-- the result of a flush, as a reply of the model
abbrev pub flush_reply : Result Flushed CoordError → Reply
flush_reply (Ok f) = say.Flushed f.number f.seq f.file
flush_reply (Err e) = say.Refused (refusal_of e)

-- the result of making a snapshot, as a reply of the model
abbrev pub snapshot_reply : Result (SnapId × ℕ) CoordError → Reply
snapshot_reply (Ok r) = say.Snapped r.0 r.1
snapshot_reply (Err e) = say.Refused (refusal_of e)

-- the result of releasing a snapshot, as a reply of the model
abbrev pub release_reply : SnapId → Result (Unit {0}) CoordError → Reply
release_reply id (Ok r) = say.Released id
release_reply id (Err e) = say.Refused (refusal_of e)

-- the result of a trim, as a reply of the model: the floor, without the tables that were removed
abbrev pub trim_reply : Result (ℕ × List ℕ) CoordError → Reply
trim_reply (Ok r) = say.Trimmed r.0
trim_reply (Err e) = say.Refused (refusal_of e)

-- the result of a pick, as a reply of the model, which does not say what was picked
abbrev pub pick_reply : Result (Option (LiveJob × JobParts)) CoordError → Reply
pick_reply (Ok picked) = say.Other
pick_reply (Err e) = say.Refused (refusal_of e)

-- what became of an install, as a reply of the model: a stale claim is refused as one of an old epoch
abbrev pub install_reply : Install → Reply
install_reply (became.Done number files) = say.Installed number files
install_reply (became.Stale job epoch) = say.Refused say.OldEpoch
install_reply (became.Kept claim why) = say.Refused (refusal_of (error_of why))

-- the result of a get, as a reply of the model
abbrev pub get_reply : Result (Option (List ℕ)) CoordError → Reply
get_reply (Ok value) = say.Got value
get_reply (Err e) = say.Refused (refusal_of e)

-- the result of a scan, as a reply of the model
abbrev pub scan_reply : {Z : Type 0} → Result (Vec (List ℕ × List ℕ) Z) CoordError → Reply
scan_reply (Ok pairs) = say.Scanned pairs.items
scan_reply (Err e) = say.Refused (refusal_of e)

-- a listing of the current version, as a reply of the model
abbrev pub show_reply : Listing → Reply
show_reply l = say.Shown l.number l.flushed (map place_of l.files.now)
