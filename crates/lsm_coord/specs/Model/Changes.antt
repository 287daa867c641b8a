-- What events do to a state (LevelDB, implementation notes: level 0, compactions, recovery).
use Rattle.std.specs.Prelude.{◌≡◌, ℕ, ◌+◌, ◌-◌, ◌≤◌, List, [], ◌∷◌, ◌++◌, Option, None, Some, length, map, filter, max, Bool, true, false, not, nat_eq, ◌&&◌, slice_get, slice_set}
use Rattle.std.specs.List.{list_any, range_with_len}
use Rattle.std.specs.Option.{unwrap_or}
use Rattle.lsm_key.specs.declared.limits.TheConstants.{MAX_LEVEL, MAX_NUMBER}
use Rattle.lsm_key.specs.Sets.{IsIn}
use Rattle.lsm_coord.specs.Model.State.{State, Version, Place, last_seq, last_flushed, current_version, current_files, snapshot_at, same_snapshot_id}
use Rattle.lsm_coord.specs.declared.snapshot.SnapId.{SnapId}

-- the sequence of a read: the latest, or that of a live snapshot
abbrev pub read_at : State → Option SnapId → ℕ
read_at s None = last_seq s
read_at s (Some id) = unwrap_or (snapshot_at s.snapshots id) 0

-- the name of the next snapshot
abbrev pub next_snapshot : State → SnapId
next_snapshot s = record { epoch = s.epoch; number = s.made + 1 }

-- with the next snapshot, at the latest sequence
abbrev pub with_snapshot : State → State
with_snapshot s = record s { snapshots = s.snapshots ++ record { id = next_snapshot s; at = last_seq s } ∷ []; made = s.made + 1 }

-- without the snapshot of this name
abbrev pub without_snapshot : State → SnapId → State
without_snapshot s id = record s { snapshots = filter (λ live. not (same_snapshot_id live.id id)) s.snapshots }

-- with one more version, and file numbers that continue from here
abbrev pub with_version : State → Version → ℕ → State
with_version s version next_file = record s { versions = s.versions ++ version ∷ []; next_file = next_file }

-- the last sequence of a flush: that of the frozen memtable, or of the active one if none is frozen
abbrev pub flush_end : State → ℕ
flush_end s = unwrap_or s.frozen (last_seq s)

-- one more file in level 0
abbrev pub flushed_version : State → Version
flushed_version s = record { flushed = flush_end s; files = current_files s ++ record { level = 0; file = s.next_file } ∷ [] }

-- a flush makes the next version, and nothing is frozen after it
abbrev pub after_flush : State → State
after_flush s = record (with_version s (flushed_version s) (s.next_file + 1)) { frozen = None }

-- the floor rises, and never falls
abbrev pub after_trim : State → ℕ → State
after_trim s n = record s { floor = max s.floor n }

-- when the coordinator goes down its snapshots end, and no write is lost
abbrev pub after_stop : State → State
after_stop s = record s { snapshots = []; made = 0; up = false }

-- and up again, in the next epoch, under a number of its own
abbrev pub after_restart : State → State
after_restart s = record (with_version (after_stop s) (current_version s) s.next_file) { epoch = s.epoch + 1; floor = length s.versions; up = true }

-- the same file in the same level
abbrev pub same_place : Place → Place → Bool
same_place a b = nat_eq a.level b.level && nat_eq a.file b.file

-- the files except the inputs
abbrev pub without_inputs : List Place → List Place → List Place
without_inputs inputs files = filter (λ p. not (list_any (same_place p) inputs)) files

-- files of these numbers, all in one level
abbrev pub at_level : ℕ → List ℕ → List Place
at_level level files = map (λ file. record { level = level; file = file }) files

-- a merge replaced some files of the current version by others, newly numbered, in one level below level 0
pub record IsInstalled (s : State) (number : ℕ) (files : List ℕ) (new : State) : Type 0 where
  pub inputs : List Place
  pub level : ℕ
  pub up : s.up ≡ true
  pub some_input : 1 ≤ length inputs
  pub of_current : (p : Place) → IsIn p inputs → IsIn p (current_files s)
  pub low : 1 ≤ level
  pub high : level ≤ MAX_LEVEL
  pub number_is : number ≡ length s.versions
  pub files_are : files ≡ range_with_len s.next_file (length files)
  pub number_fits : length s.versions ≤ MAX_NUMBER
  pub files_fit : s.next_file + length files ≤ MAX_NUMBER
  pub new_is : new ≡ with_version s (record { flushed = last_flushed s; files = without_inputs inputs (current_files s) ++ at_level level files }) (s.next_file + length files)

-- dispatchers, workers and followers are numbered from 1 to 4
abbrev pub IsIndex : ℕ → Type 0
IsIndex i = (1 ≤ i) × (i ≤ 4)

-- the follower is at this version
abbrev pub IsAt : State → ℕ → ℕ → Type 0
IsAt s follower number = IsIndex follower × (slice_get s.followers (follower - 1) ≡ Some number)

-- with the follower at this version
abbrev pub after_move : State → ℕ → ℕ → State
after_move s follower number = record s { followers = slice_set s.followers (follower - 1) number }
