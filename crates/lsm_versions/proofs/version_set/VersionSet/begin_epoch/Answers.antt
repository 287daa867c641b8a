use Rattle.std.proofs.Common.{◌≡◌, ◌∙◌, [], List, ap, arith}
use Rattle.lsm_table.specs.Tables.{Opened}
use Rattle.lsm_edit.specs.Next.{epoch_edit}
use Rattle.lsm_edit.specs.Version.{VersionValue}
use Rattle.lsm_versions.specs.Manifest.{VersionSetValue, after_logging}
use Rattle.lsm_versions.proofs.Epochs.{next_epoch, next_retired, raised_set}
use Rattle.lsm_versions.proofs.RecentEdits.{has_below, raised}
use Rattle.lsm_versions.proofs.version_set.VersionSet.begin_epoch.Goals as goal

pub invariant_of-self : goal.invariant_of-self
invariant_of-self g c =
    let old = c.args.self.now in
    let mid = c.remove_obsolete.new.self in
    let new = c.log_and_apply-2.new.self in
    let e = c.epoch-edit.result in
    let made : new ≡ record (after_logging mid e []) { failures = new.failures } = c.in_ok-log_and_apply.ensures.ok ∙ ap (λ (ts : List Opened). record (after_logging mid e ts) { failures = new.failures }) c.new.ensures.items in
    let start = c.version-version.ensures ∙ ap (λ (v : VersionSetValue). v.served.version) c.self.view_is in
    let none = next_retired old mid new e new.failures c.requires c.in_ok-remove_obsolete.ensures.rest (ap (λ (v : VersionSetValue). v.stored.tables) c.in_ok-remove_obsolete.ensures.ok) (c.epoch-edit.ensures.edit ∙ ap epoch_edit start) made in
    let m = c.self-2.inside in
    let at : c.new-floor.result ≡ m.current.version.number = c.new-floor.ensures ∙ c.number-2.ensures.value ∙ ap (λ (v : VersionValue). v.number) c.version.ensures in
    let up = c.self-2.invariant.0.retired.low in (
      raised_set _ c.new-floor.result c.self-2.invariant.0 (ap (λ (v : VersionSetValue). v.retired) c.self-2.view_is ∙ none) at,
      c.let_go.ensures ∙ raised (g.V.Vault.stored m.vault).edits m.current.version m.floor m.recent.items c.self-2.invariant.0.folds c.self-2.invariant.1 c.new-floor.result (omega (arith, at, up)),
      c.self-2.invariant.2,
    )

pub let_go-requires-clause-within : goal.let_go-requires-clause-within
let_go-requires-clause-within g c =
    let m = c.self-2.inside in
    let at : c.new-floor.result ≡ m.current.version.number = c.new-floor.ensures ∙ c.number-2.ensures.value ∙ ap (λ (v : VersionValue). v.number) c.version.ensures in
    has_below (g.V.Vault.stored m.vault).edits m.current.version m.floor m.recent.items c.self-2.invariant.0.folds c.self-2.invariant.1 c.new-floor.result (omega (arith, at))

pub returns-clause-ok : goal.returns-clause-ok
returns-clause-ok g c =
    let old = c.args.self.now in
    let mid = c.remove_obsolete.new.self in
    let new = c.log_and_apply-2.new.self in
    let e = c.epoch-edit.result in
    let made : new ≡ record (after_logging mid e []) { failures = new.failures } = c.in_ok-log_and_apply.ensures.ok ∙ ap (λ (ts : List Opened). record (after_logging mid e ts) { failures = new.failures }) c.new.ensures.items in
    let view = c.self-2.view_is in
    let start = c.version-version.ensures ∙ ap (λ (v : VersionSetValue). v.served.version) c.self.view_is in
    next_epoch old mid new e new.failures c.requires c.in_ok-remove_obsolete.ensures.rest (ap (λ (v : VersionSetValue). v.stored.tables) c.in_ok-remove_obsolete.ensures.ok) (c.epoch-edit.ensures.edit ∙ ap epoch_edit start) made _
    (ap (λ (v : VersionSetValue). v.served) view)
    (ap (λ (v : VersionSetValue). v.stored) view)
    (ap (λ (v : VersionSetValue). v.retired) view)
    (c.new-floor.ensures ∙ c.number-2.ensures.value ∙ ap (λ (v : VersionValue). v.number) c.version.ensures)
