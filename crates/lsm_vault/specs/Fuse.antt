-- A fuse: how many calls pass before the one that fails, or none once that has come.
use Rattle.std.specs.Prelude.{◌≡◌, ℕ, Result, Err, Option, None, Some, zero, suc}
use Rattle.lsm_vault.specs.declared.error.VaultError.{VaultError}
use Rattle.lsm_vault.specs.declared.error.VaultError.TheVariants.{Device}

-- the failures that it has caused
abbrev pub fuse_failures : Option ℕ → ℕ
fuse_failures None = 1
fuse_failures (Some left) = 0

-- from the fuse before a call to the one after it, by the call's answer: with no call left it fails and is burnt, else one fewer is left
abbrev pub Burns : {T : Type 0} → Option ℕ → Result T VaultError → Option ℕ → Type 0
Burns (Some zero) answer after = (answer ≡ Err Device) × (after ≡ None)
Burns (Some (suc calls)) answer after = after ≡ Some calls
Burns None answer after = after ≡ None
