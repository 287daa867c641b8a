-- What holds of every run (LevelDB, implementation notes: a version never changes; RocksDB wiki: secondary instances).
use Rattle.std.specs.Prelude.{◌≡◌, ℕ, ◌≤◌, List, ◌∷◌, ◌++◌, Option, None, Some, slice_get}
use Rattle.lsm_key.specs.declared.op.Op.{Op}
use Rattle.lsm_key.specs.Sets.{IsIn}
use Rattle.lsm_key.specs.Writes.{answer, last_write, value_of}
use Rattle.lsm_coord.specs.Model.State.{State, Version, Place, first_state, last_flushed, last_seq}
use Rattle.lsm_coord.specs.declared.snapshot.SnapId.{SnapId}
use Rattle.lsm_coord.specs.Model.Event.{Event, Reply}
use Rattle.lsm_coord.specs.Model.Event as say
use Rattle.lsm_coord.specs.Model.Range.{IsRange}
use Rattle.lsm_coord.specs.Model.Run.{Run, RunOfNew}

-- A version, once it is there, keeps its flushed sequence and its files.
abbrev pub VersionsStay : Type 0
VersionsStay = (s t : State) (steps : List (Event × Reply)) → Run s steps t
    → (number : ℕ) (version : Version) → slice_get s.versions number ≡ Some version → slice_get t.versions number ≡ Some version

-- Two listings at one number are equal, whichever nodes showed them.
abbrev pub ListingsAgree : Type 0
ListingsAgree = (s t : State) (steps : List (Event × Reply)) → Run s steps t
    → (event other_event : Event) (number seq other_seq : ℕ) (files other_files : List Place)
    → IsIn (event, say.Shown number seq files) steps
    → IsIn (other_event, say.Shown number other_seq other_files) steps
    → (seq ≡ other_seq) × (files ≡ other_files)

-- In a run of a new store, two reads of one key at one number give one value, whichever followers gave it.
abbrev pub FollowersAgree : Type 0
FollowersAgree = (steps : List (Event × Reply)) → RunOfNew steps
    → (follower other number : ℕ) (key : List ℕ) (value other_value : Option (List ℕ))
    → IsIn (say.Read follower key, say.ReadAt number value) steps
    → IsIn (say.Read other key, say.ReadAt number other_value) steps
    → value ≡ other_value

-- In a run of a new store, two gets of one key at one snapshot give one value.
abbrev pub SnapshotsAgree : Type 0
SnapshotsAgree = (steps : List (Event × Reply)) → RunOfNew steps
    → (id : SnapId) (key : List ℕ) (value other_value : Option (List ℕ))
    → IsIn (say.Get key (Some id), say.Got value) steps
    → IsIn (say.Get key (Some id), say.Got other_value) steps
    → value ≡ other_value

-- the event asks for no write of this key, refused or not
abbrev pub SparesKey : List ℕ → Event → Type 0
SparesKey key (say.Write ops) = last_write ops key ≡ None
SparesKey key event = Unit {0}

-- In a run, a get returns what the last write of its key leaves: the value of a put, none for a deletion. It is the last of
-- its key in a batch that was answered, and no event between them writes the key: restarts of the coordinator may be among them.
abbrev pub GetGivesTheWrite : Type 0
GetGivesTheWrite = (s t : State) (before between after : List (Event × Reply)) (ops : List Op) (key : List ℕ) (write : Op)
    → (first last : ℕ) (found : Option (List ℕ))
    → Run s (before ++ (say.Write ops, say.Wrote first last) ∷ (between ++ (say.Get key None, say.Got found) ∷ after)) t
    → last_write ops key ≡ Some write
    → ((event : Event) (reply : Reply) → IsIn (event, reply) between → SparesKey key event)
    → found ≡ value_of write

-- A scan can return one list only.
abbrev pub ScansAreDetermined : Type 0
ScansAreDetermined = (writes : List Op) (at : ℕ) (lo hi : List ℕ) (limit : ℕ) (pairs others : List (List ℕ × List ℕ))
    → IsRange (answer writes at) lo hi limit pairs → IsRange (answer writes at) lo hi limit others → pairs ≡ others

-- flushed sequences ascend with the version number, up to the end of the frozen memtable and the number of writes
pub record FlushedAscends (s : State) : Type 0 where
  pub ascending : (m n : ℕ) (v w : Version) → m ≤ n → slice_get s.versions m ≡ Some v → slice_get s.versions n ≡ Some w → v.flushed ≤ w.flushed
  pub written : (n : ℕ) (v : Version) → slice_get s.versions n ≡ Some v → v.flushed ≤ last_seq s
  pub frozen : (end : ℕ) → s.frozen ≡ Some end → (last_flushed s ≤ end) × (end ≤ last_seq s)

-- In a run of a new store, flushed sequences ascend so.
abbrev pub FlushedRises : Type 0
FlushedRises = (steps : List (Event × Reply)) (s : State) → Run first_state steps s → FlushedAscends s
