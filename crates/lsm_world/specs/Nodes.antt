-- What contracts see of the nodes of a store and of what they sent (RocksDB wiki, Remote Compaction: a primary, its workers, and what they exchange).
use Rattle.std.specs.Prelude.{ℕ, ◌-◌, List, slice_get, slice_set, Option}
use Rattle.lsm_coord.specs.declared.dispatcher.Dispatcher.{Dispatcher}
use Rattle.lsm_coord.specs.Contract.Restarts.{up_seat}
use Rattle.lsm_coord.specs.Contract.Seats.{SeatValue}
use Rattle.lsm_coord.specs.Contract.Value.{CoordValue}
use Rattle.lsm_follow.specs.Followers.{FollowerValue}
use Rattle.lsm_work.specs.Workers.{WorkerValue}

-- ---- the nodes

-- those that need no coordinator, and what all nodes sent
pub record NetworkValue : Type 0 where
  pub workers : List WorkerValue  -- by index from 1
  pub followers : List FollowerValue  -- by index from 1
  pub messages : List (List ℕ)  -- the encoding of each message sent, from message 1

-- while the coordinator is up
pub record NodesValue : Type 0 where
  pub core : CoordValue  -- the coordinator
  pub desk : List Dispatcher  -- by index from 1
  pub network : NetworkValue

-- whether the coordinator is up or down
pub record StoreValue : Type 0 where
  pub seat : SeatValue  -- the coordinator, or what outlives it
  pub desk : List Dispatcher
  pub network : NetworkValue

-- ---- one of four

-- one of those that are counted from 1
abbrev pub at_index : {X : Type 0} → List X → ℕ → Option X
at_index xs index = slice_get xs (index - 1)

-- another one in its place
abbrev pub with_index : {X : Type 0} → List X → ℕ → X → List X
with_index xs index x = slice_set xs (index - 1) x

-- ---- parts

-- the nodes of a coordinator that is up, with these dispatchers and this network
abbrev pub nodes_of : CoordValue → List Dispatcher → NetworkValue → NodesValue
nodes_of core desk network = record { core = core; desk = desk; network = network }

-- a store whose coordinator is up
abbrev pub up_store : NodesValue → StoreValue
up_store n = record { seat = up_seat n.core; desk = n.desk; network = n.network }

-- the nodes of a store with this coordinator
abbrev pub nodes_with : CoordValue → StoreValue → NodesValue
nodes_with core s = nodes_of core s.desk s.network

-- a store with this seat, these dispatchers and this network
abbrev pub store_with : SeatValue → List Dispatcher → NetworkValue → StoreValue
store_with seat desk network = record { seat = seat; desk = desk; network = network }

-- the number of a follower's version
abbrev pub number_of : FollowerValue → ℕ
number_of f = f.served.version.number
