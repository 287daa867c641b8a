use Rattle.std.proofs.Common.{ap, refl, subst, sym}
use Rattle.lsm_edit.specs.Version.{VersionValue}
use Rattle.lsm_vault.specs.Stored.{VaultValue}
use Rattle.lsm_versions.specs.Manifest.{VersionSetValue}
use Rattle.lsm_versions.specs.Opening.{EpochRefused, MayHaveDropped}
use Rattle.lsm_versions.proofs.Epochs.{epoch_dropped, opened_set, set_recovers}
use Rattle.lsm_versions.proofs.recovered.Recovered.begin.Goals as goal

pub returns-in-Ok-clause-ok : goal.returns-in-Ok-clause-ok
returns-in-Ok-clause-ok g c =
    let old = c.self.inside.versions in
    let is = c.served-served.ensures in
    rw (← c.self.view_is) (opened_set old.stored old.served (set_recovers old is.set) is.sound.0 c.begin_epoch.new.self old refl refl c.in-Ok.ensures.ok)

pub returns-in-Err-clause-refused : goal.returns-in-Err-clause-refused
returns-in-Err-clause-refused g c =
    rw (← c.self.view_is) (subst (λ (v : VersionValue). EpochRefused v c.in-Err.why) (sym c.served-served.ensures.set.folds.makes) c.in-Err.ensures.refused)

pub returns-in-Err-clause-left : goal.returns-in-Err-clause-left
returns-in-Err-clause-left g c =
    let old = c.self.inside.versions in
    let new = c.begin_epoch.new.self in
    let is = c.served-served.ensures in
    let refused = c.in-Err.ensures in
    rw (← c.self.view_is) (subst (λ (v : VaultValue). MayHaveDropped c.in-Err.why old.stored v) (sym c.close.ensures.vault)
    (epoch_dropped old.stored old.served (set_recovers old is.set) is.sound.0 c.in-Err.why new.stored refused.refused (ap (λ (v : VersionSetValue). v.stored) refused.err) refused.lost (λ last. ap (λ (v : VersionSetValue). v.stored) (refused.exhausted last))))

pub returns-in-Err-clause-counted : goal.returns-in-Err-clause-counted
returns-in-Err-clause-counted g c = rw (← c.self.view_is, c.close.ensures.failures) c.in-Err.ensures.counted
