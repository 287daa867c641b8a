-- What contracts see of a coordinator (LevelDB, implementation notes: memtable, immutable memtable, versions).
use Rattle.std.specs.Prelude.{ℕ, List, [], ◌++◌, Option, None, Some}
use Rattle.lsm_key.specs.declared.entry.Entry.{Entry}
use Rattle.lsm_key.specs.declared.limits.Limits.{Limits}
use Rattle.lsm_key.specs.Places.{all_entries}
use Rattle.lsm_claim.specs.Book.{BookValue}
use Rattle.lsm_edit.specs.Served.{ServedValue, tables_of}
use Rattle.lsm_vault.specs.Stored.{VaultValue}
use Rattle.lsm_versions.specs.declared.retired.Retired.{Retired}
use Rattle.lsm_versions.specs.Manifest.{VersionSetValue}
use Rattle.lsm_coord.specs.declared.frozen.Frozen.{Frozen}
use Rattle.lsm_coord.specs.declared.snapshot.Snapshot.{Snapshot}

-- what contracts see of a coordinator: its memtables, its version, its vault, its snapshots and its claims
pub record CoordValue : Type 0 where
  pub limits : Limits  -- when its levels are due, and its block target
  pub active : List Entry  -- the entries of the active memtable
  pub frozen : Option Frozen
  pub served : ServedValue  -- the current version with its tables
  pub stored : VaultValue  -- what the vault has: the encoding of each edit, from edit 1, the tables and the log
  pub last : ℕ  -- the last sequence
  pub snapshots : List Snapshot  -- the live ones
  pub made : ℕ  -- how many snapshots this epoch has made
  pub floor : ℕ  -- the least version whose files are still served
  pub retired : List Retired  -- the files that a version from the floor on lists and the current one lacks
  pub book : BookValue  -- the claims of this epoch
  pub failures : ℕ  -- how often the vault's device failed

-- its version set
abbrev pub version_set : CoordValue → VersionSetValue
version_set c = record { served = c.served; stored = c.stored; retired = c.retired; floor = c.floor; failures = c.failures }

-- the entries of the frozen memtable, none if no memtable is frozen
abbrev pub frozen_entries : Option Frozen → List Entry
frozen_entries None = []
frozen_entries (Some frozen) = frozen.memtable

-- the sequence after which the active memtable begins
abbrev pub start_of : Option Frozen → ℕ → ℕ
start_of None flushed = flushed
start_of (Some frozen) flushed = frozen.end

-- the entries of all tables of the current version
abbrev pub stored_entries : ServedValue → List Entry
stored_entries served = all_entries (tables_of served.places)

-- all entries
abbrev pub everything : CoordValue → List Entry
everything c = c.active ++ (frozen_entries c.frozen ++ stored_entries c.served)
