-- What a coordinator answers to an event that is its own, and what it is afterwards (LevelDB, db.h: the calls of a store).
use Rattle.std.specs.Prelude.{◌≡◌, ◌≤◌, None, Some, max}
use Rattle.lsm_key.specs.Faults.{Refuses}
use Rattle.lsm_key.specs.Limits.{batch_fault}
use Rattle.lsm_edit.specs.Version.{VersionValue}
use Rattle.lsm_versions.specs.Opening.{obsolete_tables}
use Rattle.lsm_coord.specs.declared.error.CoordError.TheVariants as error
use Rattle.lsm_coord.specs.Contract.Calls.{
  AppendRefuses,
  write_fault,
  IsWritten,
  freeze_fault,
  IsFrozen,
  flush_fault,
  Adds,
  FlushRefuses,
  snapshot_fault,
  after_snapshot,
  release_fault,
  after_release,
  GetRefuses,
  ScanRefuses,
  TrimRefuses,
  trim_fault,
  with_floor,
  with_live_tables,
}
use Rattle.lsm_coord.specs.Contract.Value.{CoordValue, version_set}
use Rattle.lsm_coord.specs.declared.answer.ShownVersion.{ShownVersion}
use Rattle.lsm_world.specs.declared.event.Event.{Event}
use Rattle.lsm_world.specs.declared.event.Event.TheVariants as event
use Rattle.lsm_world.specs.declared.refusal.Refusal.TheVariants as why
use Rattle.lsm_world.specs.declared.reply.Reply.{Reply}
use Rattle.lsm_world.specs.declared.reply.Reply.TheVariants as reply

-- the listing has the number, the flushed sequence and the files of the version
abbrev pub ListsVersion : VersionValue → ShownVersion → Type 0
ListsVersion v told = (told.number ≡ v.number) × (told.flushed ≡ v.flushed) × (told.files ≡ v.files)

-- The call that each event makes, by its reply: what the call makes of the coordinator, or when it refuses. A refusal changes nothing, except
-- what a flush may have stored in the vault, what a trim may have let go, and how often the vault's device has failed. Which value a read
-- returns, and which sequences a write gets, the model says (`FollowsStore` in `Shown`).
abbrev pub Calls : CoordValue → Event → Reply → CoordValue → Type 0
Calls old (event.Write ops) (reply.Wrote first last) new = (batch_fault ops ≡ None) × (write_fault old ops ≡ None) × IsWritten old ops new
Calls old (event.Write ops) (reply.Refused (why.Key e)) new = (batch_fault ops ≡ Some e) × (new ≡ old)
Calls old (event.Write ops) (reply.Refused (why.Coord e)) new = (batch_fault ops ≡ None) × AppendRefuses (write_fault old ops) old e new
Calls old event.Freeze (reply.Froze seq) new = (freeze_fault old ≡ None) × IsFrozen old new
Calls old event.Freeze (reply.Refused (why.Coord e)) new = AppendRefuses (freeze_fault old) old e new
Calls old event.Flush (reply.Flushed f) new = (flush_fault old ≡ None) × Adds old new
Calls old event.Flush (reply.Refused (why.Coord e)) new = FlushRefuses old e new
Calls old event.Snap (reply.Snapped id seq) new = (snapshot_fault old ≡ None) × (new ≡ after_snapshot old)
Calls old event.Snap (reply.Refused (why.Coord e)) new = Refuses error.OutOfMemory (snapshot_fault old) e × (new ≡ old)
Calls old (event.Release id) (reply.Released which) new = (release_fault old id ≡ None) × (which ≡ id) × (new ≡ after_release old id)
Calls old (event.Release id) (reply.Refused (why.Coord e)) new = (release_fault old id ≡ Some e) × (new ≡ old)
Calls old (event.Get key at) (reply.Got value) new = new ≡ old
Calls old (event.Get key at) (reply.Refused (why.Coord e)) new = GetRefuses old key at e × (new ≡ old)
Calls old (event.Scan range) (reply.Scanned pairs) new = new ≡ old
Calls old (event.Scan range) (reply.Refused (why.Coord e)) new = ScanRefuses old range.at e × (new ≡ old)
Calls old event.Show (reply.Shown v) new = ListsVersion old.served.version v × (new ≡ old)
Calls old (event.Trim number) (reply.Trimmed floor removed) new =
    (trim_fault old number ≡ None) × (floor ≡ max old.floor number) × (removed ≡ obsolete_tables (version_set (with_floor old number)))
    × (new ≡ record (with_live_tables old number) { failures = new.failures }) × (old.failures ≤ new.failures)
Calls old (event.Trim number) (reply.Refused (why.Coord e)) new = TrimRefuses old number e new
Calls old e r new = ⊥
