-- What contracts see of a store's nodes, whether its coordinator is up or down (the store's own).
use Rattle.std.specs.Prelude.{◌≡◌, [], Option, None, Some}
use Rattle.std.proofs.Common.{lit≤}
use Rattle.lsm_claim.specs.Book.{BookValue, new_book}
use Rattle.lsm_vault.specs.Stored.{empty_vault}
use Rattle.lsm_coord.specs.Contract.Memory.{IsFit}
use Rattle.lsm_coord.specs.Contract.Value.{CoordValue}
use Rattle.lsm_world.specs.declared.store.Store.{Store}
use Rattle.lsm_world.specs.declared.store.Store.TheVariants.{Up, Down}
use Rattle.lsm_world.specs.Inner.Stopping.{down_store}
use Rattle.lsm_world.specs.Nodes.{StoreValue, up_store}

-- what contracts see of nodes whose coordinator is up, or down
abbrev pub store_of : {V : Type 0} → Store V → StoreValue
store_of (Up nodes) = up_store nodes
store_of (Down stopped) = down_store stopped

-- no store: never between calls
abbrev pub no_store : StoreValue
no_store = down_store (record {
  stored = empty_vault;
  failures = 0;
  book = new_book 0;
  limits = record { l0 = 1; base = 1; block = 1; l0_some = lit≤ tt; l0_most = lit≤ tt; base_some = lit≤ tt; base_most = lit≤ tt; block_some = lit≤ tt; block_most = lit≤ tt };
  desk = [];
  network = record { workers = []; followers = []; messages = [] };
})

-- what contracts see of the nodes that a world holds
abbrev pub store_in : {V : Type 0} → Option (Store V) → StoreValue
store_in None = no_store
store_in (Some store) = store_of store

-- no claim is live, if the coordinator is down
abbrev pub IsIdleWhileDown : Option CoordValue → BookValue → Type 0
IsIdleWhileDown (Some c) book = Unit {0}
IsIdleWhileDown None book = book.live ≡ []

-- the coordinator is fit, if it is up
abbrev pub IsFitWhileUp : Option CoordValue → Type 0
IsFitWhileUp (Some c) = IsFit c
IsFitWhileUp None = Unit {0}
