use Rattle.std.proofs.Common.{◌≡◌, ◌∙◌, ap, sym}
use Rattle.lsm_vault.specs.Stored.{VaultValue}
use Rattle.lsm_versions.specs.Manifest.{edits_from}
use Rattle.lsm_versions.proofs.OtherLogs.{log_alone, set_stays}
use Rattle.lsm_versions.proofs.version_set.VersionSet.cut_log.Goals as goal

pub invariant_of-self : goal.invariant_of-self
invariant_of-self g c =
    let m = c.self.inside in
    let old = g.V.Vault.stored m.vault in
    let new = g.V.Vault.stored c.cut_log.new.self in
    let rest : new ≡ record old { log = new.log } = log_alone c.cut_log.result old new _ c.cut_log.ensures.ok c.cut_log.ensures.err in (
      set_stays (record { served = m.current; stored = old; retired = m.retired.items; floor = m.floor; failures = g.V.Vault.failures m.vault }) new (g.V.Vault.failures c.cut_log.new.self) rest c.self.invariant.0,
      c.self.invariant.1 ∙ ap (λ (s : VaultValue). edits_from m.floor s.edits) (sym rest),
      c.self.invariant.2,
    )
