-- Which states a store's nodes represent (show): the coordinator's, or its vault's while that is down, and the versions of the followers (RocksDB wiki, Read-only and secondary instances).
use Rattle.std.specs.Prelude.{◌≡◌, ℕ, ◌≤◌, List, Some, map, slice_get}
use Rattle.lsm_key.specs.Sets.{IsIn}
use Rattle.lsm_key.specs.Places.{AreOrdered}
use Rattle.lsm_key.specs.Visible.{value_at}
use Rattle.lsm_key.specs.Writes.{answer}
use Rattle.lsm_edit.specs.declared.served.Placed.{Placed}
use Rattle.lsm_edit.specs.Served.{IsServed, ServedValue, tables_of}
use Rattle.lsm_coord.specs.Contract.Seats.{ShowsSeat}
use Rattle.lsm_coord.specs.Contract.Value.{stored_entries}
use Rattle.lsm_coord.specs.Model.Event.{Event, Reply}
use Rattle.lsm_coord.specs.Model.Laws.{FlushedAscends}
use Rattle.lsm_coord.specs.Model.State.{State}
use Rattle.lsm_coord.specs.Model.Step.{Step}
use Rattle.lsm_world.specs.History.{History, IsStoreHistory, IsVersionOf}
use Rattle.lsm_world.specs.Nodes.{StoreValue, number_of}

-- ---- versions that answer as the writes do

-- at the version's flushed sequence
pub record AnswersAsWrites (served : ServedValue) (s : State) : Type 0 where
  pub ordered : AreOrdered (tables_of served.places)
  pub answers : (key : List ℕ) → value_at (stored_entries served) key served.version.flushed ≡ answer s.writes served.version.flushed key

-- each version of the history, with tables of the history
abbrev pub AreAnswered : History → State → Type 0
AreAnswered h s = (served : ServedValue) → IsServed served → IsVersionOf h served.version → ((p : Placed) → IsIn p served.places → IsIn p h.files) → AnswersAsWrites served s

-- ---- the store

-- The seat and the followers show the state, and some history of the store has versions that answer as its writes do.
pub record ShowsStore (store : StoreValue) (s : State) : Type 0 where
  pub seat : ShowsSeat store.seat s
  pub followers : s.followers ≡ map number_of store.network.followers
  pub rising : FlushedAscends s
  pub history : History
  pub known : IsStoreHistory history store
  pub answered : AreAnswered history s

-- from each state that is shown before, the event and its reply are a step to one that is shown after
abbrev pub FollowsStore : StoreValue → Event → Reply → StoreValue → Type 0
FollowsStore old e r new = (s : State) → ShowsStore old s → (t : State) × Step s e r t × ShowsStore new t
