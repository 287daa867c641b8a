use Rattle.std.proofs.Common.{◌≡◌, ◌+◌, None, Some, sym, ap, ◌∙◌, refl}
use Rattle.std.specs.Option.{option_map}
use Rattle.lsm_edit.specs.Version.{VersionValue}
use Rattle.lsm_coord.specs.Contract.Calls.{snapshot_fault}
use Rattle.lsm_coord.specs.Model.Changes.{with_snapshot, next_snapshot}
use Rattle.lsm_coord.specs.Contract.Replies.{refusal_of}
use Rattle.lsm_coord.specs.Model.Rules.{refusal}
use Rattle.lsm_coord.specs.Model.Event as say
use Rattle.lsm_coord.proofs.ForcedRefusals.{snapshot_forced, snapshot_refused}
use Rattle.lsm_coord.proofs.SnapshotSteps.{Shows-snapped}
use Rattle.lsm_coord.proofs.JobsStaySound.{snapshot_keeps}
use Rattle.lsm_coord.proofs.coord.Coord.snapshot.Goals as goal

pub returns-in-Some-clause-step : goal.returns-in-Some-clause-step
returns-in-Some-clause-step g c = λ s h.
    let forced : refusal s say.Snap ≡ Some (refusal_of c.in-Some.why) = snapshot_forced c.args.self.now s h ∙ ap (option_map refusal_of) (sym c.snapshot_fault.ensures ∙ c.in-Some.is) in
    (s, snapshot_refused s (refusal_of c.in-Some.why) forced, h)

pub returns-clause-step : goal.returns-clause-step
returns-clause-step g c =
    let none : snapshot_fault c.args.self.now ≡ None = sym c.snapshot_fault.ensures ∙ c.in-None.is in
    let epoch : c.epoch.result ≡ c.self.inside.versions.served.version.epoch = c.epoch.ensures.value ∙ ap (λ (v : VersionValue). v.epoch) c.version.ensures in
    rw (c.in_ok-push.ensures.items, epoch, ← c.self.view_is) (λ s h.
    let may : refusal s say.Snap ≡ None = snapshot_forced _ s h ∙ ap (option_map refusal_of) (ap snapshot_fault c.self.view_is ∙ none) in
    let id : record { epoch = c.self.inside.versions.served.version.epoch; number = c.self.inside.made + 1 } ≡ next_snapshot s = λ i. record { epoch = sym h.tables.epoch i; number = sym h.made i + 1 } in
    (with_snapshot s, (may, (id, sym h.last, refl)), Shows-snapped _ s h))

pub returns-clause-sound : goal.returns-clause-sound
returns-clause-sound g c =
    let epoch : c.epoch.result ≡ c.self.inside.versions.served.version.epoch = c.epoch.ensures.value ∙ ap (λ (v : VersionValue). v.epoch) c.version.ensures in
    rw (c.in_ok-push.ensures.items, epoch, ← c.self.view_is) (λ s h. snapshot_keeps _ s h)
