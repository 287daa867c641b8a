-- Why a store refuses a call, from what refuses it below (LevelDB, status.h).
use Rattle.lsm_key.specs.declared.batch.KeyError.{KeyError}
use Rattle.lsm_key.specs.declared.batch.KeyError.TheVariants as key
use Rattle.lsm_coord.specs.declared.error.CoordError.TheVariants as coord
use Rattle.lsm_store.specs.declared.error.StoreError.{StoreError}
use Rattle.lsm_store.specs.declared.error.StoreError.TheVariants.{Coord, Key}

-- an operation that a batch refuses
abbrev pub error_of_key : KeyError → StoreError
error_of_key key.OutOfMemory = Coord coord.OutOfMemory
error_of_key e = Key e
