use Rattle.std.proofs.Common.{◌∙◌, List, ℕ, subst}
use Rattle.std.proofs.lemmas.Option.{IfSome_then}
use Rattle.lsm_key.specs.Sets.{IsIn}
use Rattle.lsm_table.specs.Tables.{IsTable}
use Rattle.lsm_versions.specs.declared.retired.Retired.{Retired}
use Rattle.lsm_versions.proofs.version_set.VersionSet.bytes_of.Goals as goal

pub returns-in-None-clause-sound : goal.returns-in-None-clause-sound
returns-in-None-clause-sound g c = IfSome_then c.retired_bytes.result c.retired_bytes.ensures.listed (λ bytes found.
    let is = c.self.invariant.0.retired.each found.0 (subst (λ (rs : List Retired). IsIn found.0 rs) c.deref.ensures.value found.1) in
    (is.table.entries, subst (λ (b : List ℕ). IsTable b is.table.entries) (is.bytes ∙ found.2) is.recorded.table))
