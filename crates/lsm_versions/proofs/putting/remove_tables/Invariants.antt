use Rattle.std.proofs.Common.{◌≡◌, ◌≤◌, take}
use Rattle.std.specs.FinMap as map
use Rattle.lsm_versions.specs.Kept.{MayHaveRemoved}
use Rattle.lsm_versions.proofs.RemovedTables.{all_but}
use Rattle.lsm_versions.proofs.putting.remove_tables.Given as goal

abbrev pub invariant-loop-number : goal.invariant-loop-number
invariant-loop-number g l =
    let stored = g.V.Vault.stored in
    MayHaveRemoved l.numbers (stored l.fn.vault).tables (stored l.vault).tables
    × (stored l.vault ≡ record (stored l.fn.vault) { tables = (stored l.vault).tables })
    × (g.V.Vault.failures l.fn.vault ≤ g.V.Vault.failures l.vault)
    × ((stored l.vault).tables ≡ map.retain_keys (stored l.fn.vault).tables (all_but (take l.number-index l.numbers)))
