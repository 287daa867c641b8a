-- When a vault may report that its device failed (RocksDB: I/O errors; here they are counted, so that none is made up).
use Rattle.std.specs.Prelude.{ℕ, ◌<◌, ◌≤◌, Result, Ok, Err}
use Rattle.lsm_vault.specs.declared.error.VaultError.{VaultError}
use Rattle.lsm_vault.specs.declared.error.VaultError.TheVariants.{Device, OutOfMemory}

-- of a call's answer, with the failures counted before and after it: a device failure was counted, and the count never falls
abbrev pub CountsFailures : {T : Type 0} → Result T VaultError → ℕ → ℕ → Type 0
CountsFailures (Err Device) before after = before < after
CountsFailures (Err OutOfMemory) before after = before ≤ after
CountsFailures (Ok value) before after = before ≤ after
