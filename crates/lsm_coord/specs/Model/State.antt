-- The abstract state of a store (O'Neil et al. 1996, section 2; LevelDB, implementation notes: sequence numbers, snapshots, version edits).
use Rattle.std.specs.Prelude.{ℕ, ◌-◌, List, [], ◌∷◌, Option, None, Some, length, drop, Bool, true, nat_eq, get_or, if◌then◌else◌, ◌&&◌}
use Rattle.std.specs.Option.{unwrap_or}
use Rattle.lsm_key.specs.declared.op.Op.{Op}
use Rattle.lsm_coord.specs.declared.snapshot.SnapId.{SnapId}
use Rattle.lsm_coord.specs.declared.snapshot.Snapshot.{Snapshot}

-- a file and its level
pub record Place : Type 0 where
  pub level : ℕ
  pub file : ℕ

-- what a version is: the sequence up to which writes are in its files, and these files, by number
pub record Version : Type 0 where
  pub flushed : ℕ
  pub files : List Place

-- what the store has accepted, and what its nodes hold
pub record State : Type 0 where
  pub writes : List Op  -- the accepted writes; the sequence of a write is its position, from 1
  pub versions : List Version  -- the versions, by number from 0
  pub frozen : Option ℕ  -- the last sequence of the frozen memtable
  pub snapshots : List Snapshot  -- the live ones, the oldest first
  pub made : ℕ  -- how many snapshots this epoch has made
  pub epoch : ℕ
  pub floor : ℕ  -- the least version whose files are still served
  pub next_file : ℕ
  pub up : Bool  -- whether the coordinator runs
  pub followers : List ℕ  -- the version of each follower

-- the version before any flush
abbrev pub empty_version : Version
empty_version = record { flushed = 0; files = [] }

-- a new store, whose first edit began its first epoch
abbrev pub first_state : State
first_state = record {
  writes = [];
  versions = empty_version ∷ empty_version ∷ [];
  frozen = None;
  snapshots = [];
  made = 0;
  epoch = 1;
  floor = 1;
  next_file = 1;
  up = true;
  followers = 0 ∷ 0 ∷ 0 ∷ 0 ∷ [];
}

-- the sequence of the last write
abbrev pub last_seq : State → ℕ
last_seq s = length s.writes

-- the number of the current version, the greatest one
abbrev pub current : State → ℕ
current s = length s.versions - 1

-- the version of the current number
abbrev pub current_version : State → Version
current_version s = get_or s.versions (current s) empty_version

-- the flushed sequence of the current version
abbrev pub last_flushed : State → ℕ
last_flushed s = (current_version s).flushed

-- the files of the current version
abbrev pub current_files : State → List Place
current_files s = (current_version s).files

-- the sequence that the active memtable begins after
abbrev pub active_start : State → ℕ
active_start s = unwrap_or s.frozen (last_flushed s)

-- the writes of the active memtable
abbrev pub active : State → List Op
active s = drop (active_start s) s.writes

-- the same epoch and number
abbrev pub same_snapshot_id : SnapId → SnapId → Bool
same_snapshot_id a b = nat_eq a.epoch b.epoch && nat_eq a.number b.number

-- the sequence of a live snapshot
abbrev pub snapshot_at : List Snapshot → SnapId → Option ℕ
snapshot_at [] id = None
snapshot_at (live ∷ rest) id = if same_snapshot_id live.id id then Some live.at else snapshot_at rest id
