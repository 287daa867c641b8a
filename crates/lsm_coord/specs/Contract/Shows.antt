-- Which states a coordinator represents (shows) (O'Neil et al. 1996, section 2: the components of the tree together are the data).
use Rattle.std.specs.Prelude.{◌≡◌, ℕ, ◌≤◌, List, drop, take, map, true}
use Rattle.std.specs.Option.{option_map}
use Rattle.std.specs.List.Sorted.{IsPermutation}
use Rattle.lsm_key.specs.declared.entry.Entry.{Entry}
use Rattle.lsm_key.specs.Sets.{IsIn}
use Rattle.lsm_key.specs.Writes.{answer}
use Rattle.lsm_key.specs.Visible.{value_at}
use Rattle.lsm_key.specs.Places.{entries_after, AreOrdered}
use Rattle.lsm_edit.specs.declared.file.FileMeta.{FileMeta}
use Rattle.lsm_edit.specs.Log.{LogHolds}
use Rattle.lsm_edit.specs.Served.{ServedValue, tables_of}
use Rattle.lsm_edit.specs.Version.{VersionValue}
use Rattle.lsm_versions.specs.Manifest.{Folds, versions_of}
use Rattle.lsm_coord.specs.Model.State.{Place, State, Version, last_seq, last_flushed, active_start}
use Rattle.lsm_coord.specs.declared.snapshot.Snapshot.{Snapshot}
use Rattle.lsm_coord.specs.Model.Event.{Event, Reply}
use Rattle.lsm_coord.specs.Model.Step.{Step}
use Rattle.lsm_coord.specs.declared.frozen.Frozen.{Frozen}
use Rattle.lsm_coord.specs.Contract.Value.{CoordValue, frozen_entries, stored_entries}

-- what a version lists
abbrev pub place_of : FileMeta → Place
place_of f = record { level = f.level; file = f.number }

-- a version as the model lists it: its flushed sequence, and its files with their levels
abbrev pub listing_of : VersionValue → Version
listing_of v = record { flushed = v.flushed; files = map place_of v.files }

-- The edits and the tables of the current version show the versions of a state, and its answers at the last flush.
pub record ShowsStored (edits : List (List ℕ)) (served : ServedValue) (s : State) : Type 0 where
  pub manifest : Folds edits served.version
  pub versions : s.versions ≡ map listing_of (versions_of edits)
  pub next_file : s.next_file ≡ served.version.next_file
  pub epoch : s.epoch ≡ served.version.epoch
  pub ordered : AreOrdered (tables_of served.places)
  pub old : (e : Entry) → IsIn e (stored_entries served) → e.ikey.seq ≤ last_flushed s
  pub answers : (key : List ℕ) → value_at (stored_entries served) key (last_flushed s) ≡ answer s.writes (last_flushed s) key

-- The memtables have the writes after the last flush, the frozen one those up to its end, and the tables have what the
-- live snapshots before the last flush read.
pub record ShowsRecent (active frozen tables : List Entry) (s : State) : Type 0 where
  pub flushed : last_flushed s ≤ active_start s
  pub within : active_start s ≤ last_seq s
  pub active_is : IsPermutation active (entries_after (active_start s) (drop (active_start s) s.writes))
  pub frozen_is : IsPermutation frozen (entries_after (last_flushed s) (drop (last_flushed s) (take (active_start s) s.writes)))
  pub kept : (x : Snapshot) → IsIn x s.snapshots → x.at ≤ last_flushed s → (key : List ℕ) → value_at tables key x.at ≡ answer s.writes x.at key
  pub snapped : (x : Snapshot) → IsIn x s.snapshots → x.at ≤ last_seq s

-- What it shows is what it has in its tables, its memtables and its log.
pub record Shows (c : CoordValue) (s : State) : Type 0 where
  pub up : s.up ≡ true
  pub last : last_seq s ≡ c.last
  pub frozen : s.frozen ≡ option_map (λ (f : Frozen). f.end) c.frozen
  pub snapshots : s.snapshots ≡ c.snapshots
  pub made : s.made ≡ c.made
  pub floor : s.floor ≡ c.floor
  pub tables : ShowsStored c.stored.edits c.served s
  pub memtables : ShowsRecent c.active (frozen_entries c.frozen) (stored_entries c.served) s
  pub logged : LogHolds (last_flushed s) c.stored.log (drop (last_flushed s) s.writes) s.frozen

-- For every state shown before, the event and its reply are a step to one shown after.
abbrev pub Follows : CoordValue → Event → Reply → CoordValue → Type 0
Follows old event reply new = (s : State) → Shows old s → (t : State) × Step s event reply t × Shows new t
