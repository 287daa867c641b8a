use Rattle.std.proofs.Common.{◌≡◌, ◌∙◌, ℕ, ap, refl}
use Rattle.lsm_edit.specs.Next.{number_after}
use Rattle.lsm_edit.proofs.NextLaws.{install_sound, install_applies}
use Rattle.lsm_edit.proofs.edit.Edit.install.Goals as goal

pub returns-clause-edit : goal.returns-clause-edit
returns-clause-edit c =
    let next : c.number_past-next_file.result ≡ number_after c.args.version.now.next_file c.args.added =
    c.number_past-next_file.ensures ∙ ap (λ (n : ℕ). number_after n c.as_slice.result.now) c.next_file.ensures.value ∙ ap (number_after c.args.version.now.next_file) c.as_slice.ensures in
    rw (c.number.ensures.value, c.flushed.ensures, c.epoch.ensures.value, next) refl

pub returns-clause-sound : goal.returns-clause-sound
returns-clause-sound c =
    let next : c.number_past-next_file.result ≡ number_after c.args.version.now.next_file c.args.added =
    c.number_past-next_file.ensures ∙ ap (λ (n : ℕ). number_after n c.as_slice.result.now) c.next_file.ensures.value ∙ ap (number_after c.args.version.now.next_file) c.as_slice.ensures in
    rw (c.number.ensures.value, c.flushed.ensures, c.epoch.ensures.value, next)
    (install_sound c.args.version.now c.args.removed c.args.added c.number.ensures.sound c.requires.removed c.requires.added c.requires.fresh c.requires.number c.requires.epoch c.requires.room)

pub returns-clause-applies : goal.returns-clause-applies
returns-clause-applies c =
    let next : c.number_past-next_file.result ≡ number_after c.args.version.now.next_file c.args.added =
    c.number_past-next_file.ensures ∙ ap (λ (n : ℕ). number_after n c.as_slice.result.now) c.next_file.ensures.value ∙ ap (number_after c.args.version.now.next_file) c.as_slice.ensures in
    rw (c.number.ensures.value, c.flushed.ensures, c.epoch.ensures.value, next)
    (install_applies c.args.version.now c.args.removed c.args.added c.number.ensures.sound c.requires.removed c.requires.added c.requires.fresh c.requires.present c.requires.disjoint)
