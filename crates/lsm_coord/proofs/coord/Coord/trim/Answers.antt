use Rattle.std.proofs.Common.{◌≡◌, ◌≤◌, ◌<◌, ◌∙◌, ℕ, None, max, inl, sym, ap, arith, refl}
use Rattle.lsm_edit.specs.Version.{VersionValue}
use Rattle.lsm_versions.specs.Manifest.{VersionSetValue}
use Rattle.lsm_coord.specs.Model.Changes.{after_trim}
use Rattle.lsm_coord.specs.Model.Rules.{refusal}
use Rattle.lsm_coord.specs.Model.Event as say
use Rattle.lsm_coord.proofs.JobsStaySound.{same_keeps}
use Rattle.lsm_coord.proofs.ShownVersions.{version_count}
use Rattle.lsm_coord.proofs.StateRefusals.{trim_may, trim_past_current}
use Rattle.lsm_coord.proofs.TrimSteps.{Shows-trimmed}
use Rattle.lsm_coord.proofs.VaultRefusals.{trim_failed}
use Rattle.lsm_coord.proofs.GiveBackSteps.{Shows-beside}
use Rattle.lsm_coord.proofs.coord.Coord.trim.Goals as goal

pub returns-then-number-clause-step : goal.returns-then-number-clause-step
returns-then-number-clause-step g c =
    let m = c.self.inside in
    let number : c.number-2.result ≡ m.versions.served.version.number = c.number-2.ensures.value ∙ ap (λ (v : VersionValue). v.number) c.version.ensures in
    let past : m.versions.served.version.number < c.args.to = omega (arith, c.if-number.true, c.number.ensures, number) in
    rw (← c.self.view_is) (λ s h.
    let count = version_count m.versions.stored.edits m.versions.served s h.tables in
    (s, (inl (trim_past_current s c.args.to h.up (omega (arith, count, past))), refl), h))

pub returns-clause-step : goal.returns-clause-step
returns-clause-step g c =
    let m = c.self.inside in
    let number : c.number-2.result ≡ m.versions.served.version.number = c.number-2.ensures.value ∙ ap (λ (v : VersionValue). v.number) c.version.ensures in
    let fits : c.args.to ≤ m.versions.served.version.number = omega (arith, c.if-number.false, c.number.ensures, number) in
    let floor : c.floor.result ≡ max m.versions.floor c.args.to = c.floor.ensures ∙ ap (λ (v : VersionSetValue). v.floor) c.in_ok-removed.ensures.rest in
    rw (c.in_ok-removed.ensures.rest, ← c.self.view_is) (λ s h.
    let count = version_count m.versions.stored.edits m.versions.served s h.tables in
    let may : refusal s (say.Trim c.args.to) ≡ None = trim_may s c.args.to h.up (omega (arith, count, fits)) in
    (after_trim s c.args.to, (may, (floor ∙ ap (λ (n : ℕ). max n c.args.to) (sym h.floor), refl)), Shows-beside _ _ _ _ (after_trim s c.args.to) (Shows-trimmed _ s c.args.to h)))

pub returns-clause-sound : goal.returns-clause-sound
returns-clause-sound g c = rw (c.in_ok-removed.ensures.rest, ← c.self.view_is) (same_keeps _ _ refl refl refl refl)

pub returns-in_err-removed-clause-sound : goal.returns-in_err-removed-clause-sound
returns-in_err-removed-clause-sound g c = rw (c.in_err-removed.ensures.rest, ← c.self.view_is) (same_keeps _ _ refl refl refl refl)

pub returns-in_err-removed-clause-step : goal.returns-in_err-removed-clause-step
returns-in_err-removed-clause-step g c =
    let m = c.self.inside in
    let number : c.number-2.result ≡ m.versions.served.version.number = c.number-2.ensures.value ∙ ap (λ (v : VersionValue). v.number) c.version.ensures in
    let fits : c.args.to ≤ m.versions.served.version.number = omega (arith, c.if-number.false, c.number.ensures, number) in
    rw (c.in_err-removed.ensures.rest, ← c.self.view_is) (λ s h.
    let count = version_count m.versions.stored.edits m.versions.served s h.tables in
    let may : refusal s (say.Trim c.args.to) ≡ None = trim_may s c.args.to h.up (omega (arith, count, fits)) in
    (after_trim s c.args.to, trim_failed s c.args.to c.from_residual.result c.in_err-removed.field-0.0 c.from_residual.ensures.1 may, Shows-beside _ _ _ _ (after_trim s c.args.to) (Shows-trimmed _ s c.args.to h)))
