-- One event, its reply, and the state after it (O'Neil et al. 1996; LevelDB, implementation notes; RocksDB wiki).
use Rattle.std.specs.Prelude.{◌≡◌, ℕ, ◌+◌, ◌<◌, List, ◌++◌, Option, None, Some, length, max, slice_get, ◌⊎◌}
use Rattle.lsm_key.specs.Writes.{answer}
use Rattle.lsm_coord.specs.Model.State.{State, Version, Place, last_seq, current}
use Rattle.lsm_coord.specs.Model.Event.{Event, Refusal, Reply}
use Rattle.lsm_coord.specs.Model.Event as say
use Rattle.lsm_coord.specs.Model.Rules.{refusal, IsAllowed}
use Rattle.lsm_coord.specs.Model.Range.{IsRange}
use Rattle.lsm_coord.specs.Model.Changes.{read_at, next_snapshot, with_snapshot, without_snapshot, flush_end, after_flush, after_trim, after_stop, after_restart, IsInstalled, IsIndex, IsAt, after_move}

-- the version of a number, by its flushed sequence and its files
abbrev pub Lists : State → ℕ → ℕ → List Place → Type 0
Lists s number seq files = slice_get s.versions number ≡ Some (record { flushed = seq; files = files })

-- what a follower's version returns for a key
abbrev pub FollowerReads : State → ℕ → List ℕ → Option (List ℕ) → Type 0
FollowerReads s number key value = (version : Version) × (slice_get s.versions number ≡ Some version) × (value ≡ answer s.writes version.flushed key)

-- a follower advances to a version
abbrev pub Advances : State → ℕ → State → Type 0
Advances s number new = (follower : ℕ) × (old : ℕ) × IsAt s follower old × (old < number) × (number < length s.versions) × (new ≡ after_move s follower number)

-- The replies that are no refusal. The state stays the same unless a reply says otherwise.
abbrev pub Does : State → Event → Reply → State → Type 0
Does s (say.Write ops) (say.Wrote first last) new = (first ≡ last_seq s + 1) × (last ≡ last_seq s + length ops) × (new ≡ record s { writes = s.writes ++ ops })
Does s say.Freeze (say.Froze seq) new = (seq ≡ last_seq s) × (new ≡ record s { frozen = Some (last_seq s) })
Does s say.Flush (say.Flushed number seq file) new = (number ≡ length s.versions) × (seq ≡ flush_end s) × (file ≡ s.next_file) × (new ≡ after_flush s)
Does s say.Snap (say.Snapped id seq) new = (id ≡ next_snapshot s) × (seq ≡ last_seq s) × (new ≡ with_snapshot s)
Does s (say.Release id) (say.Released which) new = (which ≡ id) × (new ≡ without_snapshot s id)
Does s (say.Get key at) (say.Got value) new = (value ≡ answer s.writes (read_at s at) key) × (new ≡ s)
Does s (say.Scan lo hi at limit) (say.Scanned pairs) new = IsRange (answer s.writes (read_at s at)) lo hi limit pairs × (new ≡ s)
Does s (say.Read follower key) (say.ReadAt number value) new = IsAt s follower number × FollowerReads s number key value × (new ≡ s)
Does s (say.Show say.Coordinator) (say.Shown number seq files) new = (number ≡ current s) × Lists s number seq files × (new ≡ s)
Does s (say.Show (say.Follower i)) (say.Shown number seq files) new = IsAt s i number × Lists s number seq files × (new ≡ s)
Does s (say.Deliver m) (say.Installed number files) new = IsInstalled s number files new
Does s (say.Deliver m) (say.Advanced number) new = Advances s number new
Does s (say.Deliver m) say.Other new = new ≡ s
Does s (say.Pick d) say.Other new = IsIndex d × (new ≡ s)
Does s (say.GiveUp d) say.Other new = IsIndex d × (new ≡ s)
Does s (say.Ask i) say.Other new = IsIndex i × (new ≡ s)
Does s (say.Trim n) (say.Trimmed floor) new = (floor ≡ max s.floor n) × (new ≡ after_trim s n)
Does s (say.Restart say.Coordinator) (say.Restarted epoch number last) new = (epoch ≡ s.epoch + 1) × (number ≡ length s.versions) × (last ≡ last_seq new) × (new ≡ after_restart s)
Does s (say.Restart (say.Worker i)) say.Reset new = IsIndex i × (new ≡ s)
Does s (say.Restart (say.Follower i)) say.Reset new = IsIndex i × (new ≡ after_move s i 0)
Does s event reply new = ⊥

-- What a refusal leaves. A trim raises the floor before it touches the vault, and a refused restart leaves the coordinator down.
abbrev pub Leaves : State → Event → Refusal → State → Type 0
Leaves s (say.Trim n) say.Device new = new ≡ after_trim s n
Leaves s (say.Trim n) say.OutOfMemory new = ((refusal s (say.Trim n) ≡ None) × (new ≡ after_trim s n)) ⊎ (new ≡ s)
Leaves s (say.Restart say.Coordinator) say.OutOfMemory new = (new ≡ after_stop s) ⊎ (new ≡ s)
Leaves s (say.Restart say.Coordinator) why new = new ≡ after_stop s
Leaves s event why new = new ≡ s

-- a refusal that may be given, or a reply to what is not refused
abbrev pub Step : State → Event → Reply → State → Type 0
Step s event (say.Refused why) new = IsAllowed s event why × Leaves s event why new
Step s event reply new = (refusal s event ≡ None) × Does s event reply new
