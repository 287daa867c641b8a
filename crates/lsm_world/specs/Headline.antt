-- What every schedule of a new store promises, each on its own (LevelDB, db.h: Get; RocksDB wiki, Read-only and secondary instances).
use Rattle.std.specs.Prelude.{◌≡◌, ℕ, List, Option, Some, slice_get, take}
use Rattle.lsm_key.specs.Sets.{IsIn}
use Rattle.lsm_key.specs.Writes.{answer}
use Rattle.lsm_coord.specs.declared.snapshot.SnapId.{SnapId}
use Rattle.lsm_coord.specs.Model.Changes.{read_at}
use Rattle.lsm_coord.specs.Model.Event.{Event, Reply}
use Rattle.lsm_coord.specs.Model.Event as say
use Rattle.lsm_coord.specs.Model.Range.{IsRange}
use Rattle.lsm_coord.specs.Model.Run.{Run}
use Rattle.lsm_coord.specs.Model.State.{Place, State, Version, first_state}
use Rattle.lsm_coord.specs.Model.Step.{Step}

-- the event at this place got the reply
abbrev pub IsAnsweredAt : List (Event × Reply) → ℕ → Event → Reply → Type 0
IsAnsweredAt steps place event reply = slice_get steps place ≡ Some (event, reply)

-- the state in which the event at this place was taken
abbrev pub IsStateAt : List (Event × Reply) → ℕ → State → Type 0
IsStateAt steps place s = Run first_state (take place steps) s

-- With this reply the event at this place was a step from this state: it was not refused there, and the reply is what the state gives.
abbrev pub IsStepAt : List (Event × Reply) → ℕ → State → Event → Reply → Type 0
IsStepAt steps place s event reply = IsStateAt steps place s × ((t : State) × Step s event reply t)

-- A get at the coordinator gives the newest accepted write of its key, no later than its point.
abbrev pub ReadsAreNewest : List (Event × Reply) → Type 0
ReadsAreNewest steps = (place : ℕ) (key : List ℕ) (at : Option SnapId) (value : Option (List ℕ)) → IsAnsweredAt steps place (say.Get key at) (say.Got value)
    → (s : State) × IsStepAt steps place s (say.Get key at) (say.Got value) × (value ≡ answer s.writes (read_at s at) key)

-- A scan at the coordinator gives the first keys of its range that have a value, each with its newest accepted write, no later than its point.
abbrev pub ScansAreNewest : List (Event × Reply) → Type 0
ScansAreNewest steps = (place : ℕ) (lo hi : List ℕ) (at : Option SnapId) (limit : ℕ) (pairs : List (List ℕ × List ℕ)) → IsAnsweredAt steps place (say.Scan lo hi at limit) (say.Scanned pairs)
    → (s : State) × IsStepAt steps place s (say.Scan lo hi at limit) (say.Scanned pairs) × IsRange (answer s.writes (read_at s at)) lo hi limit pairs

-- A read at a follower gives the newest accepted write of its key, no later than the flushed sequence of the follower's version.
abbrev pub FollowerReadsAreNewest : List (Event × Reply) → Type 0
FollowerReadsAreNewest steps = (place follower : ℕ) (key : List ℕ) (number : ℕ) (value : Option (List ℕ)) → IsAnsweredAt steps place (say.Read follower key) (say.ReadAt number value)
    → (s : State) × IsStepAt steps place s (say.Read follower key) (say.ReadAt number value) × (v : Version) × (slice_get s.versions number ≡ Some v) × (value ≡ answer s.writes v.flushed key)

-- Nodes that show one version number show one listing.
abbrev pub ShowOneListing : List (Event × Reply) → Type 0
ShowOneListing steps = (event other_event : Event) (number flushed other_flushed : ℕ) (files other_files : List Place)
    → IsIn (event, say.Shown number flushed files) steps → IsIn (other_event, say.Shown number other_flushed other_files) steps
    → (flushed ≡ other_flushed) × (files ≡ other_files)

-- Followers at one version give one answer.
abbrev pub GiveOneAnswer : List (Event × Reply) → Type 0
GiveOneAnswer steps = (follower other number : ℕ) (key : List ℕ) (value other_value : Option (List ℕ))
    → IsIn (say.Read follower key, say.ReadAt number value) steps → IsIn (say.Read other key, say.ReadAt number other_value) steps → value ≡ other_value
