-- Its vault is that of a world.
use Rattle.std.proofs.Common.{◌≡◌, rules, subst, sym}
use Rattle.lsm_edit.specs.Edits.{RemovedOnce}
use Rattle.lsm_vault.specs.Stored.{VaultValue}
use Rattle.lsm_versions.specs.Manifest.{read_edits}
use Rattle.lsm_world.proofs.StoreEvents.{fit_once}
use Rattle.lsm_world.proofs.world.World.close.Goals as goal

pub returns-clause-once : goal.returns-clause-once
returns-clause-once g c = subst (λ (v : VaultValue). RemovedOnce (read_edits v.edits)) {x = c.args.self.nodes.seat.stored} {y = g.V.Vault.stored c.close.result} (sym (search rules)) (fit_once _ _ c.known.ensures.fit)
