-- What the coordinator's calls leave of its files and claims (the store's own).
use Rattle.std.specs.Prelude.{◌≡◌, ◌⊎◌}
use Rattle.lsm_key.specs.Sets.{IsIn}
use Rattle.lsm_versions.specs.declared.retired.Retired.{Retired}
use Rattle.lsm_coord.specs.Contract.Calls.{Adds}
use Rattle.lsm_coord.specs.Contract.Memory.{IsFit}
use Rattle.lsm_coord.specs.Contract.Sound.{KeepsSound}
use Rattle.lsm_coord.specs.Contract.Value.{CoordValue}

-- the files, the edits and the claims are as before
pub record HasSameFiles (old new : CoordValue) : Type 0 where
  pub served : new.served ≡ old.served
  pub edits : new.stored.edits ≡ old.stored.edits
  pub retired : new.retired ≡ old.retired
  pub book : new.book ≡ old.book

-- a table more, from a memtable
pub record HasOneMore (old new : CoordValue) : Type 0 where
  pub before : IsFit old
  pub after : IsFit new
  pub adds : Adds old new

-- some retired files are let go
pub record HasFewer (old new : CoordValue) : Type 0 where
  pub served : new.served ≡ old.served
  pub edits : new.stored.edits ≡ old.stored.edits
  pub retired : (r : Retired) → IsIn r new.retired → IsIn r old.retired
  pub book : new.book ≡ old.book

-- jobs stay sound, and the files are as before, one more, or fewer
pub record KeepsFiles (old new : CoordValue) : Type 0 where
  pub sound : KeepsSound old new
  pub files : HasSameFiles old new ⊎ (HasOneMore old new ⊎ HasFewer old new)
