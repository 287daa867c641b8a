-- What an opening of a store in a folder gives, whatever the files hold (LevelDB: DB::Open, and recovery from the manifest and the log).
use Rattle.std.specs.Prelude.{List, []}
use Rattle.lsm_key.specs.declared.op.Op.{Op}
use Rattle.lsm_key.specs.declared.limits.Limits.{Limits}
use Rattle.lsm_vault.specs.Stored.{VaultValue}
use Rattle.lsm_versions.specs.Opening.{OpenRefuses}
use Rattle.lsm_coord.specs.Contract.Value.{CoordValue}
use Rattle.lsm_coord.specs.Contract.Seats.{LogComesFirst, OpensCoord}
use Rattle.lsm_store.specs.Store.{Holds, HoldsStored}
use Rattle.lsm.specs.declared.error.OpenError.{OpenError}
use Rattle.lsm.specs.declared.error.OpenError.TheVariants.{Contents}

-- the store is opened of some edits, tables and log, with these limits, and holds what they hold
pub record OpensSome (limits : Limits) (c : CoordValue) : Type 0 where
  pub stored : VaultValue
  pub opens : OpensCoord stored limits c
  pub holds : (writes : List Op) → HoldsStored stored writes → Holds c writes []

-- what is refused of some edits, tables and log, is refused for that reason
abbrev pub RefusesSome : OpenError → Type 0
RefusesSome (Contents why) = (stored : VaultValue) × OpenRefuses stored why × LogComesFirst stored why
RefusesSome why = Unit {0}
