use Rattle.std.proofs.Common.{◌≡◌, ◌≤◌, take}
use Rattle.lsm_edit.specs.Served.{AreAsRecorded, placed_of}
use Rattle.lsm_versions.specs.Opening.{ArePlacesKept}
use Rattle.lsm_versions.proofs.opening.tables_of.Given as goal

abbrev pub invariant-loop-file : goal.invariant-loop-file
invariant-loop-file g l =
    AreAsRecorded (take l.file-index l.files) l.tables.items
    × ArePlacesKept (g.V.Vault.stored l.fn.vault).tables (placed_of (take l.file-index l.files) l.tables.items)
    × (g.V.Vault.stored l.vault ≡ g.V.Vault.stored l.fn.vault)
    × (g.V.Vault.failures l.fn.vault ≤ g.V.Vault.failures l.vault)
