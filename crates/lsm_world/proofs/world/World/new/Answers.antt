-- The coordinator of a new store is opened over a vault that has nothing.
use Rattle.std.proofs.Common.{ap, refl, subst}
use Rattle.lsm_key.specs.declared.limits.Limits.{Limits}
use Rattle.lsm_vault.specs.Stored.{VaultValue}
use Rattle.lsm_versions.specs.Opening.{MayHaveDropped, OpenRefuses}
use Rattle.lsm_coord.specs.Contract.Value.{CoordValue}
use Rattle.lsm_world.specs.Schedules.{AreNew}
use Rattle.lsm_world.proofs.FirstHistory.{first_shown}
use Rattle.lsm_world.proofs.NewVaults.{new_refused, none_dropped, opened_book, opened_kept}
use Rattle.lsm_world.proofs.RunningSchedules.{reached_first}
use Rattle.lsm_world.proofs.world.World.new.Goals as goal

pub invariant_of-result : goal.invariant_of-result
invariant_of-result g c = (refl, rw c.new-in-Ok.ensures.items (reached_first c.in-Ok.coord.limits c.new.result c.new.ensures.new c.new.ensures.fit))

pub new-requires-clause-kept : goal.new-requires-clause-kept
new-requires-clause-kept g c = opened_kept (g.V.Vault.stored c.args.vault) c.args.limits c.in-Ok.coord c.in-Ok.ensures.ok c.requires

pub new-requires-clause-shown : goal.new-requires-clause-shown
new-requires-clause-shown g c = c.in-Ok.ensures.new (ap (λ (v : VaultValue). v.edits) c.requires) (ap (λ (v : VaultValue). v.log) c.requires)

pub new-requires-clause-book : goal.new-requires-clause-book
new-requires-clause-book g c = opened_book (g.V.Vault.stored c.args.vault) c.args.limits c.in-Ok.coord c.in-Ok.ensures.ok c.requires

pub returns-in-Ok-clause-new : goal.returns-in-Ok-clause-new
returns-in-Ok-clause-new g c = (
  c.new.result,
  subst (λ (l : Limits). AreNew l c.new.result) (ap (λ (x : CoordValue). x.limits) c.in-Ok.ensures.ok.is) c.new.ensures.new,
  refl,
  c.new-in-Ok.ensures.items,
  first_shown c.in-Ok.coord.limits c.new.result c.new.ensures.new c.new.ensures.fit,
)

pub returns-in-Err-clause-refused : goal.returns-in-Err-clause-refused
returns-in-Err-clause-refused g c = new_refused c.in-Err.why (subst (λ (v : VaultValue). OpenRefuses v c.in-Err.why) c.requires c.in-Err.ensures.refused)

pub returns-in-Err-clause-left : goal.returns-in-Err-clause-left
returns-in-Err-clause-left g c =
    let left = g.V.Vault.stored c.in-Err.vault in
    none_dropped c.in-Err.why left (subst (λ (v : VaultValue). MayHaveDropped c.in-Err.why v left) c.requires c.in-Err.ensures.left)
