use Rattle.std.proofs.Common.{◌≡◌, ◌≤◌, ◌∙◌, ℕ, List, IfOk, OnOk, ap, sym, subst, max, leb, arith, rules}
use Rattle.std.proofs.lemmas.Fn.{filter_same}
use Rattle.lsm_versions.specs.declared.retired.Retired.{Retired}
use Rattle.lsm_versions.specs.Manifest.{IsVersionSet, VersionSetValue, after_trimming}
use Rattle.lsm_versions.specs.Opening.{MayHaveLost, is_live, obsolete_tables, without_obsolete}
use Rattle.lsm_versions.specs.Retention.{kept_from}
use Rattle.lsm_versions.proofs.KeptTables.{kept_trimmed}
use Rattle.lsm_versions.proofs.RecentEdits as recent
use Rattle.lsm_versions.proofs.RetiredFiles.{retired-trimmed}
use Rattle.lsm_versions.proofs.version_set.VersionSet.trim.Given.{Over}
use Rattle.lsm_versions.proofs.version_set.VersionSet.trim.Goals as goal

-- a set whose floor has risen
raised : (v : VersionSetValue) (to floor : ℕ) (retired : List Retired) → floor ≡ max v.floor to → retired ≡ kept_from floor v.retired → record v { floor = floor; retired = retired } ≡ after_trimming v to
raised v to floor retired floor_is retired_is = let all = retired_is ∙ ap (λ (n : ℕ). kept_from n v.retired) floor_is in λ i. record v { floor = floor_is i; retired = all i }

-- what the set has then
raised_to : (g : Over) (c : goal.After-remove_obsolete g) → record (record { served = c.self.inside.current; stored = g.V.Vault.stored c.self.inside.vault; retired = c.self.inside.retired.items; floor = c.self.inside.floor; failures = g.V.Vault.failures c.self.inside.vault }) { floor = c.max-floor.result; retired = c.retain.new.self.items } ≡ after_trimming c.args.self.now c.args.to
raised_to g c =
    let v : VersionSetValue = record { served = c.self.inside.current; stored = g.V.Vault.stored c.self.inside.vault; retired = c.self.inside.retired.items; floor = c.self.inside.floor; failures = g.V.Vault.failures c.self.inside.vault } in
    raised v c.args.to c.max-floor.result c.retain.new.self.items (search rules) (filter_same _ (λ (r : Retired). leb c.max-floor.result r.until) _ (λ x b f k. search rules) _ _ c.retain.ensures.filtered)
    ∙ ap (λ (w : VersionSetValue). after_trimming w c.args.to) c.self.view_is

pub invariant_of-self : goal.invariant_of-self
invariant_of-self g c =
    let m = c.self.inside in
    let low : c.args.to ≤ m.current.version.number = subst (λ (v : VersionSetValue). c.args.to ≤ v.served.version.number) (sym c.self.view_is) c.requires in
    let v : VersionSetValue = record { served = c.self.inside.current; stored = g.V.Vault.stored c.self.inside.vault; retired = c.self.inside.retired.items; floor = c.self.inside.floor; failures = g.V.Vault.failures c.self.inside.vault } in
    let is = raised v c.args.to c.max-floor.result c.retain.new.self.items (search rules) (filter_same _ (λ (r : Retired). leb c.max-floor.result r.until) _ (λ x b f k. search rules) _ _ c.retain.ensures.filtered) in
    let top : c.max-floor.result ≡ max m.floor c.args.to = search rules in (
      subst IsVersionSet (sym is) (record {
        folds = c.self.invariant.0.folds;
        retired = retired-trimmed _ m.current.version m.retired.items m.floor c.args.to c.self.invariant.0.retired low;
        kept = kept_trimmed m.current m.retired.items (max m.floor c.args.to) (g.V.Vault.stored m.vault).tables c.self.invariant.0.kept;
      }),
      c.let_go.ensures ∙ recent.raised (g.V.Vault.stored m.vault).edits m.current.version m.floor m.recent.items c.self.invariant.0.folds c.self.invariant.1 c.max-floor.result (omega (arith, top)),
      c.self.invariant.2,
    )

pub let_go-requires-clause-within : goal.let_go-requires-clause-within
let_go-requires-clause-within g c =
    let m = c.self.inside in
    let low : c.args.to ≤ m.current.version.number = subst (λ (v : VersionSetValue). c.args.to ≤ v.served.version.number) (sym c.self.view_is) c.requires in
    let floor = c.self.invariant.0.retired.low in
    let top : c.max-floor.result ≡ max m.floor c.args.to = search rules in
    recent.has_below (g.V.Vault.stored m.vault).edits m.current.version m.floor m.recent.items c.self.invariant.0.folds c.self.invariant.1 c.max-floor.result (omega (arith, top, low, floor))

pub returns-clause-removed : goal.returns-clause-removed
returns-clause-removed g c = subst (λ (v : VersionSetValue). IfOk c.remove_obsolete.result (λ removed. removed.items ≡ obsolete_tables v)) (raised_to g c) c.remove_obsolete.ensures.removed

pub returns-clause-ok : goal.returns-clause-ok
returns-clause-ok g c = subst (λ (v : VersionSetValue). OnOk c.remove_obsolete.result (c.remove_obsolete.new.self ≡ record (without_obsolete v) { failures = c.remove_obsolete.new.self.failures })) (raised_to g c) c.remove_obsolete.ensures.ok

pub returns-clause-rest : goal.returns-clause-rest
returns-clause-rest g c = subst (λ (v : VersionSetValue). c.remove_obsolete.new.self ≡ record v { stored = record v.stored { tables = c.remove_obsolete.new.self.stored.tables }; failures = c.remove_obsolete.new.self.failures }) (raised_to g c) c.remove_obsolete.ensures.rest

pub returns-clause-lost : goal.returns-clause-lost
returns-clause-lost g c = subst (λ (v : VersionSetValue). MayHaveLost (is_live v) v.stored.tables c.remove_obsolete.new.self.stored.tables) (raised_to g c) c.remove_obsolete.ensures.lost
