use Rattle.std.proofs.Common.{◌≡◌, ◌∙◌, ℕ, not, filter, ap}
use Rattle.std.specs.FinMap.{keys, retain_keys}
use Rattle.lsm_vault.specs.Stored.{TableMap, VaultValue}
use Rattle.lsm_versions.specs.Opening.{is_live_file}
use Rattle.lsm_versions.proofs.RemovedTables.{all_but, others_gone, others_lost}
use Rattle.lsm_versions.proofs.putting.remove_obsolete.Goals as goal

pub returns-in_err-remove_tables-clause-lost : goal.returns-in_err-remove_tables-clause-lost
returns-in_err-remove_tables-clause-lost g c =
    others_lost (g.V.Vault.stored c.args.vault.now).tables _ (g.V.Vault.stored c.remove_tables.new.vault).tables (is_live_file c.args.version.now.files c.args.retired.now) c.as_slice.result.now (c.as_slice.ensures.value ∙ c.in_ok-obsolete.ensures.ok) (ap (λ (v : VaultValue). v.tables) c.in_ok-obsolete.ensures.stays) c.remove_tables.ensures.removed

pub returns-clause-lost : goal.returns-clause-lost
returns-clause-lost g c =
    others_lost (g.V.Vault.stored c.args.vault.now).tables _ (g.V.Vault.stored c.remove_tables.new.vault).tables (is_live_file c.args.version.now.files c.args.retired.now) c.as_slice.result.now (c.as_slice.ensures.value ∙ c.in_ok-obsolete.ensures.ok) (ap (λ (v : VaultValue). v.tables) c.in_ok-obsolete.ensures.stays) c.remove_tables.ensures.removed

pub returns-clause-ok : goal.returns-clause-ok
returns-clause-ok g c =
    let old = g.V.Vault.stored c.args.vault.now in
    let needed = is_live_file c.args.version.now.files c.args.retired.now in
    let numbers : c.as_slice.result.now ≡ filter {X = ℕ} (λ n. not (needed n)) (keys old.tables) = c.as_slice.ensures.value ∙ c.in_ok-obsolete.ensures.ok in
    let stays = c.in_ok-obsolete.ensures.stays in
    c.in_ok-remove_tables.ensures.ok ∙ (λ i. record (stays i) { tables = retain_keys (stays i).tables (all_but (numbers i)) }) ∙ ap (λ (t : TableMap). record old { tables = t }) (others_gone old.tables needed)
