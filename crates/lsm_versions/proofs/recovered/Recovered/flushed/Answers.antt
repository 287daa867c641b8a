use Rattle.std.proofs.Common.{◌∙◌, ap, sym}
use Rattle.lsm_edit.specs.Version.{VersionValue}
use Rattle.lsm_versions.proofs.recovered.Recovered.flushed.Goals as goal

pub returns : goal.returns
returns g c = rw (← c.self.view_is) (c.flushed.ensures ∙ ap (λ (v : VersionValue). v.flushed) (c.version.ensures ∙ sym c.served-served.ensures.set.folds.makes))
