use Rattle.std.proofs.Common.{◌≤◌, IfErr, IfOk, subst, arith}
use Rattle.std.proofs.lemmas.Result.{IfErr-weaker, IfOk-weaker}
use Rattle.lsm_vault.specs.Stored.{VaultValue}
use Rattle.lsm_versions.specs.Opening.{EpochRefused, MayHaveDropped, Opens, manifest_version}
use Rattle.lsm_versions.proofs.Epochs.{counted_from, epoch_refuses, recover_refuses, unchanged_dropped}
use Rattle.lsm_versions.proofs.version_set.VersionSet.open.Goals as goal

pub returns-in-Ok-clause-ok : goal.returns-in-Ok-clause-ok
returns-in-Ok-clause-ok g c = subst (λ (v : VaultValue). IfOk c.begin.result (Opens v)) c.in-Ok.ensures.ok c.begin.ensures.ok

pub returns-in-Ok-clause-failures : goal.returns-in-Ok-clause-failures
returns-in-Ok-clause-failures g c =
    let first = c.in-Ok.ensures.failures in
    IfOk-weaker c.begin.result (λ v. c.in-Ok.recovered.failures ≤ v.failures) (λ v. g.V.Vault.failures c.args.vault ≤ v.failures) (λ v later. omega (arith, first, later)) c.begin.ensures.failures

pub returns-in-Ok-clause-refused : goal.returns-in-Ok-clause-refused
returns-in-Ok-clause-refused g c =
    IfErr-weaker c.begin.result _ _ (λ e h. epoch_refuses (g.V.Vault.stored c.args.vault) c.in-Ok.ensures.whole e.0 (subst (λ (v : VaultValue). EpochRefused (manifest_version v.edits) e.0) c.in-Ok.ensures.ok h)) c.begin.ensures.refused

pub returns-in-Ok-clause-left : goal.returns-in-Ok-clause-left
returns-in-Ok-clause-left g c = subst (λ (v : VaultValue). IfErr c.begin.result (λ e. MayHaveDropped e.0 v (g.V.Vault.stored e.1))) c.in-Ok.ensures.ok c.begin.ensures.left

pub returns-in-Ok-clause-counted : goal.returns-in-Ok-clause-counted
returns-in-Ok-clause-counted g c =
    IfErr-weaker c.begin.result _ _ (λ e h. counted_from e.0 (g.V.Vault.failures c.args.vault) c.in-Ok.recovered.failures (g.V.Vault.failures e.1) c.in-Ok.ensures.failures h) c.begin.ensures.counted

pub returns-in-Err-clause-refused : goal.returns-in-Err-clause-refused
returns-in-Err-clause-refused g c = recover_refuses (g.V.Vault.stored c.args.vault) c.in-Err.refused.0 c.in-Err.ensures.refused

pub returns-in-Err-clause-left : goal.returns-in-Err-clause-left
returns-in-Err-clause-left g c = unchanged_dropped c.in-Err.refused.0 (g.V.Vault.stored c.args.vault) (g.V.Vault.stored c.in-Err.refused.1) c.in-Err.ensures.left
