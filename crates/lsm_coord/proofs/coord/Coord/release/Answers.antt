use Rattle.std.proofs.Common.{◌≡◌, ◌∙◌, None, ap, sym, refl, rules, filter, not, is_some, subst}
use Rattle.std.specs.Option.{option_map}
use Rattle.std.proofs.lemmas.Fn.{filter_same}
use Rattle.lsm_coord.specs.declared.snapshot.Snapshot.{Snapshot}
use Rattle.lsm_coord.specs.Model.State.{same_snapshot_id, snapshot_at}
use Rattle.lsm_coord.specs.Model.Changes.{without_snapshot}
use Rattle.lsm_coord.specs.Contract.Value.{CoordValue}
use Rattle.lsm_coord.specs.Contract.Calls.{release_fault, after_release}
use Rattle.lsm_coord.specs.Contract.Replies.{refusal_of}
use Rattle.lsm_coord.specs.Model.Rules.{refusal}
use Rattle.lsm_coord.specs.Model.Event as say
use Rattle.lsm_coord.proofs.ForcedRefusals.{release_forced}
use Rattle.lsm_coord.specs.Contract.Sound.{KeepsSound}
use Rattle.lsm_coord.proofs.JobsStaySound.{release_keeps}
use Rattle.lsm_coord.proofs.SnapshotSteps.{releasable, Shows-released}
use Rattle.lsm_coord.proofs.coord.Coord.release.Goals as goal

pub returns-clause-step : goal.returns-clause-step
returns-clause-step g c =
    let others : c.retain.new.self.items ≡ filter (λ (x : Snapshot). not (same_snapshot_id x.id c.args.id)) c.self.inside.live.items = filter_same _ _ _ (λ x b f k. search rules) _ _ c.retain.ensures.filtered in
    let free : release_fault c.args.self.now c.args.id ≡ None = releasable (snapshot_at c.args.self.now.snapshots c.args.id) (ap is_some (sym c.seq_of.ensures) ∙ c.is_none.ensures ∙ ap not c.if-is_none.false) in
    rw (others, ← c.self.view_is) (λ s h.
    let may : refusal s (say.Release c.args.id) ≡ None = release_forced _ s c.args.id h ∙ ap (option_map refusal_of) (ap (λ (v : CoordValue). release_fault v c.args.id) c.self.view_is ∙ free) in
    (without_snapshot s c.args.id, (may, (refl, refl)), Shows-released _ s c.args.id h))

pub returns-clause-ok : goal.returns-clause-ok
returns-clause-ok g c =
    let others : c.retain.new.self.items ≡ filter (λ (x : Snapshot). not (same_snapshot_id x.id c.args.id)) c.self.inside.live.items = filter_same _ _ _ (λ x b f k. search rules) _ _ c.retain.ensures.filtered in
    let free : release_fault c.args.self.now c.args.id ≡ None = releasable (snapshot_at c.args.self.now.snapshots c.args.id) (ap is_some (sym c.seq_of.ensures) ∙ c.is_none.ensures ∙ ap not c.if-is_none.false) in
    (free, rw others (ap (λ (v : CoordValue). after_release v c.args.id) c.self.view_is))

pub returns-clause-sound : goal.returns-clause-sound
returns-clause-sound g c = subst (λ (v : CoordValue). KeepsSound c.args.self.now v) (sym (returns-clause-ok g c).1) (release_keeps c.args.self.now c.args.id)
