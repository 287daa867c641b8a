-- Counts of failures of a vault inside another one.
use Rattle.std.specs.Prelude.{ℕ, ◌+◌, ◌≤◌, Result, Ok, Err}
use Rattle.std.proofs.Common.{arith}
use Rattle.lsm_vault.specs.declared.error.VaultError.{VaultError}
use Rattle.lsm_vault.specs.declared.error.VaultError.TheVariants.{Device, OutOfMemory}
use Rattle.lsm_vault.specs.Failures.{CountsFailures}

-- a count that does not fall may be added
pub counted_beside : {T : Type 0} (answer : Result T VaultError) (before after f g : ℕ) → f ≤ g → CountsFailures answer before after → CountsFailures answer (before + f) (after + g)
counted_beside (Ok x) before after f g le counted = omega arith
counted_beside (Err Device) before after f g le counted = omega arith
counted_beside (Err OutOfMemory) before after f g le counted = omega arith
