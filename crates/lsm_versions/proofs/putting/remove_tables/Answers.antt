use Rattle.std.proofs.Common.{◌∙◌, ℕ, List, ap, inl, refl, sym, subst, arith}
use Rattle.std.specs.FinMap.{retain_keys}
use Rattle.std.proofs.lemmas.List.{take_all}
use Rattle.lsm_key.specs.Sets.{IsIn}
use Rattle.lsm_key.proofs.Membership.{IsIn-at}
use Rattle.lsm_vault.specs.Stored.{TableMap, VaultValue}
use Rattle.lsm_vault.proofs.StoredChanges.{rest_then, tables_alone}
use Rattle.lsm_versions.proofs.RemovedTables.{all_but, none_fewer, one_fewer}
use Rattle.lsm_versions.proofs.PutTables.{never_falls, removed_too}
use Rattle.lsm_versions.proofs.putting.remove_tables.Goals as goal

pub loop-number-preserved : goal.loop-number-preserved
loop-number-preserved g c =
    let all = g.V.Vault.stored in
    let among = subst (λ (n : ℕ). IsIn n c.args.numbers.now) (sym c.number-item.is) (IsIn-at c.args.numbers.now c.loop-number.number-index c.number-item.result c.loop-number-test.true) in
    let up = never_falls c.remove_table.result _ _ c.remove_table.ensures.counted in
    let low = c.loop-number.invariant.2 in (
      removed_too c.remove_table.result c.args.numbers.now (all c.args.vault.now).tables (all c.loop-number.vault) (all c.remove_table.new.self) c.number-item.result among c.remove_table.ensures.ok c.remove_table.ensures.err c.loop-number.invariant.0,
      rest_then (all c.args.vault.now) (all c.loop-number.vault) (all c.remove_table.new.self) c.loop-number.invariant.1 (tables_alone (all c.loop-number.vault) (all c.remove_table.new.self) _ c.in_ok-remove_table.ensures.ok),
      omega (arith, up, low),
      one_fewer (all c.args.vault.now).tables (all c.loop-number.vault).tables (all c.remove_table.new.self).tables c.args.numbers.now c.loop-number.number-index c.number-item.result c.loop-number-test.true c.number-item.is c.loop-number.invariant.3 (ap (λ (v : VaultValue). v.tables) c.in_ok-remove_table.ensures.ok),
    )

pub returns-clause-ok : goal.returns-clause-ok
returns-clause-ok g c =
    let old = g.V.Vault.stored c.args.vault.now in
    let tables = c.loop-number.invariant.3 ∙ ap (λ (ns : List ℕ). retain_keys old.tables (all_but ns)) (take_all c.loop-number.number-index c.args.numbers.now c.loop-number-test.false) in
    c.loop-number.invariant.1 ∙ ap (λ (t : TableMap). record old { tables = t }) tables

pub loop-number-init : goal.loop-number-init
loop-number-init g c = (λ n. inl refl, refl, omega arith, none_fewer (g.V.Vault.stored c.args.vault.now).tables)
