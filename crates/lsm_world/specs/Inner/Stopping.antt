-- What the nodes of a store have while its coordinator is down (the store's own).
use Rattle.std.specs.Prelude.{ℕ, List, None}
use Rattle.lsm_key.specs.declared.limits.Limits.{Limits}
use Rattle.lsm_claim.specs.Book.{BookValue}
use Rattle.lsm_vault.specs.Stored.{VaultValue}
use Rattle.lsm_coord.specs.declared.dispatcher.Dispatcher.{Dispatcher}
use Rattle.lsm_world.specs.Nodes.{NetworkValue, StoreValue}

-- what contracts see of nodes whose coordinator is down
pub record StoppedValue : Type 0 where
  pub stored : VaultValue
  pub failures : ℕ
  pub book : BookValue
  pub limits : Limits
  pub desk : List Dispatcher
  pub network : NetworkValue

-- as a store
abbrev pub down_store : StoppedValue → StoreValue
down_store s = record { seat = record { core = None; stored = s.stored; failures = s.failures; book = s.book; limits = s.limits }; desk = s.desk; network = s.network }
