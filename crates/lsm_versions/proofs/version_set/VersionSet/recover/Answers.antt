use Rattle.lsm_versions.proofs.CachedReads.{none_held}
use Rattle.lsm_versions.proofs.Epochs.{recoverable, recovered_set}
use Rattle.lsm_versions.proofs.version_set.VersionSet.recover.Goals as goal

pub invariant_of-versions : goal.invariant_of-versions
invariant_of-versions g c =
    rw (c.in-Ok-recover.ensures.stays, c.new.ensures.items, c.listing-floor.ensures.number) (recovered_set (g.V.Vault.stored c.args.vault) c.in-Ok-recover.recovered.0 (g.V.Vault.failures c.recover.new.vault) c.in-Ok-recover.ensures.ok, c.in-Ok-recover.ensures.recent, none_held c.in-Ok-recover.recovered.0.places c.in-Ok.cache c.in-Ok.ensures)

pub returns-clause-whole : goal.returns-clause-whole
returns-clause-whole g c = recoverable (g.V.Vault.stored c.args.vault) c.in-Ok-recover.recovered.0 c.in-Ok-recover.ensures.ok c.listing-floor.ensures.sound.0
