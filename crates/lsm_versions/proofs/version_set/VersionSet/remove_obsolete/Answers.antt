use Rattle.std.proofs.Common.{◌∙◌, List, ap, sym, subst}
use Rattle.lsm_key.proofs.Membership.{IsIn-map}
use Rattle.lsm_edit.specs.declared.served.Placed.{Placed}
use Rattle.lsm_edit.specs.Version.{VersionValue}
use Rattle.lsm_vault.specs.Stored.{VaultValue}
use Rattle.lsm_versions.specs.declared.retired.Retired.{Retired}
use Rattle.lsm_versions.specs.Manifest.{IsVersionSet, edits_from}
use Rattle.lsm_versions.specs.Opening.{MayHaveLost, is_live_file}
use Rattle.lsm_versions.proofs.RemovedTables.{kept_needed}
use Rattle.lsm_versions.proofs.version_set.VersionSet.remove_obsolete.Goals as goal

pub invariant_of-self : goal.invariant_of-self
invariant_of-self g c =
    let m = c.self.inside in
    let old = (g.V.Vault.stored m.vault).tables in
    let new = (g.V.Vault.stored c.remove_obsolete.new.vault).tables in
    let lost =
    subst (λ (rs : List Retired). MayHaveLost (is_live_file m.current.version.files rs) old new) c.deref.ensures.value
    (subst (λ (v : VersionValue). MayHaveLost (is_live_file v.files c.deref.result.now) old new) c.version.ensures c.remove_obsolete.ensures.lost) in
    let served = c.places-places.ensures.sound.0 in
    let is = c.self.invariant.0 in
    let rest = sym c.remove_obsolete.ensures.rest in (
      subst (λ (s : VaultValue). IsVersionSet (record { served = m.current; stored = s; retired = m.retired.items; floor = m.floor; failures = g.V.Vault.failures c.remove_obsolete.new.vault })) rest (record {
        folds = is.folds;
        retired = is.retired;
        kept = kept_needed m.current.places m.current.version.files m.retired.items old new (λ p n. (served.listed p.meta).0 (IsIn-map (λ (x : Placed). x.meta) p m.current.places n)) lost is.kept;
      }),
      c.self.invariant.1 ∙ ap (λ (s : VaultValue). edits_from m.floor s.edits) rest,
      c.self.invariant.2,
    )
