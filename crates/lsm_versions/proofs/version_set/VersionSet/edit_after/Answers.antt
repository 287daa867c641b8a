use Rattle.std.proofs.Common.{◌≡◌, ◌∙◌, ◌+◌, ◌-◌, ◌<◌, ◌≤◌, Option, Some, get_or, sym, subst, arith}
use Rattle.std.specs.Option.{IfNone, IfSome}
use Rattle.std.specs.List.{slice_get}
use Rattle.lsm_edit.specs.declared.edit.Edit.{Edit}
use Rattle.lsm_edit.specs.Edit.{IsSpelledEdit}
use Rattle.lsm_versions.specs.Manifest.{VersionSetValue, read_edits}
use Rattle.lsm_versions.proofs.EditsInTurn.{read_at}
use Rattle.lsm_versions.proofs.RecentEdits.{spells, stands, text_at}
use Rattle.lsm_versions.proofs.version_set.VersionSet.edit_after.Goals as goal

pub index-requires : goal.index-requires
index-requires g c =
    let m = c.self.inside in
    let from : m.floor ≤ c.args.number + 1 = subst (λ (w : VersionSetValue). w.floor ≤ c.args.number + 1) (sym c.self.view_is) c.requires.from in
    let below : c.args.number < m.current.version.number = subst (λ (w : VersionSetValue). c.args.number < w.served.version.number) (sym c.self.view_is) c.requires.below in
    let is = stands (g.V.Vault.stored m.vault).edits m.current.version m.floor m.recent.items c.self.invariant.0.folds c.self.invariant.1 c.args.number from below in
    let long = m.recent.ok.0 in
    rw (c.number.ensures, c.edits_below.ensures) (omega (arith, is, long))

pub unreachable-requires : goal.unreachable-requires
unreachable-requires g c =
    let m = c.self.inside in
    let from : m.floor ≤ c.args.number + 1 = subst (λ (w : VersionSetValue). w.floor ≤ c.args.number + 1) (sym c.self.view_is) c.requires.from in
    let below : c.args.number < m.current.version.number = subst (λ (w : VersionSetValue). c.args.number < w.served.version.number) (sym c.self.view_is) c.requires.below in
    let one = spells (g.V.Vault.stored m.vault).edits m.current.version m.floor m.recent.items c.self.invariant.0.folds c.self.invariant.1 c.args.number from below c.index.result.now (c.index.ensures ∙ (λ i. get_or m.recent.items (c.number.ensures i - c.edits_below.ensures i) c.index.result.now)) in
    subst (λ (o : Option Edit). IfNone o ((e : Edit) → IsSpelledEdit c.index.result.now e → ⊥)) c.in_default.is c.in_ok-edit.ensures.none one.0 one.1

pub returns-clause-next : goal.returns-clause-next
returns-clause-next g c =
    let m = c.self.inside in
    let from : m.floor ≤ c.args.number + 1 = subst (λ (w : VersionSetValue). w.floor ≤ c.args.number + 1) (sym c.self.view_is) c.requires.from in
    let below : c.args.number < m.current.version.number = subst (λ (w : VersionSetValue). c.args.number < w.served.version.number) (sym c.self.view_is) c.requires.below in
    let at = text_at (g.V.Vault.stored m.vault).edits m.current.version m.floor m.recent.items c.self.invariant.0.folds c.self.invariant.1 c.args.number from below c.index.result.now (c.index.ensures ∙ (λ i. get_or m.recent.items (c.number.ensures i - c.edits_below.ensures i) c.index.result.now)) in
    let one = subst (λ (o : Option Edit). IfSome o (IsSpelledEdit c.index.result.now)) c.in-Some.is c.in_ok-edit.ensures.some in
    subst (λ (w : VersionSetValue). slice_get (read_edits w.stored.edits) c.args.number ≡ Some c.in-Some.edit) c.self.view_is (read_at (g.V.Vault.stored m.vault).edits m.current.version c.self.invariant.0.folds c.args.number c.index.result.now c.in-Some.edit at one)
