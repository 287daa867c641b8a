use Rattle.std.proofs.Common.{◌∙◌, [], ◌∷◌, ◌++◌, ap}
use Rattle.std.proofs.lemmas.Result.{on_err_weaker, on_ok_weaker}
use Rattle.lsm_vault.specs.Stored.{VaultValue}
use Rattle.lsm_vault.proofs.StoredChanges.{tables_alone}
use Rattle.lsm_versions.proofs.putting.store.Goals as goal

pub returns-clause-ok : goal.returns-clause-ok
returns-clause-ok g c = on_ok_weaker c.append_edit.result (λ is. is ∙ ap (λ (v : VaultValue). record v { edits = v.edits ++ c.args.edit ∷ [] }) c.in_ok-put_tables.ensures.ok) c.append_edit.ensures.ok

pub returns-clause-err : goal.returns-clause-err
returns-clause-err g c = on_err_weaker c.append_edit.result (λ is. tables_alone (g.V.Vault.stored c.args.vault.now) _ _ (is ∙ c.in_ok-put_tables.ensures.ok)) c.append_edit.ensures.err
