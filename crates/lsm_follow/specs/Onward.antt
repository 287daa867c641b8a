-- A follower's version never goes back.
use Rattle.std.specs.Prelude.{◌≡◌, ◌⊎◌, ◌<◌}
use Rattle.lsm_edit.specs.Served.{ServedValue}

-- the same version as before, or a later one
abbrev pub IsOnward : ServedValue → ServedValue → Type 0
IsOnward old new = (new ≡ old) ⊎ (old.version.number < new.version.number)
