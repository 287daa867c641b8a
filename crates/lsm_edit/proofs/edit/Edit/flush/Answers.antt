use Rattle.std.proofs.Common.{◌≡◌, ◌∷◌, ◌++◌, [], ◌<◌, ◌^◌, arith, List, ap, ◌∙◌}
use Rattle.lsm_edit.specs.declared.file.FileMeta.{FileMeta}
use Rattle.lsm_edit.proofs.NextLaws.{flush_sound, flush_applies}
use Rattle.lsm_edit.proofs.edit.Edit.flush.Goals as goal

pub returns-clause-sound : goal.returns-clause-sound
returns-clause-sound c =
    let v = c.args.version.now in
    let fits : c.args.flushed < 2 ^ 56 = omega (arith, c.number-written.ensures.value, c.number-written.ensures.bound) in
    let added : c.push.new.self ≡ c.args.file ∷ [] = c.in_ok-push.ensures.ok ∙ ap (λ (fs : List FileMeta). fs ++ c.args.file ∷ []) c.new-added.ensures in
    rw (c.number-number.ensures.value, c.epoch.ensures.value, c.next_file-next_file.ensures.value, c.new.ensures, added)
    (flush_sound v c.args.flushed c.args.file c.number-number.ensures.sound c.requires.number c.requires.next_file c.requires.newer fits c.requires.sound c.requires.place.1 c.requires.epoch)

pub returns-clause-applies : goal.returns-clause-applies
returns-clause-applies c =
    let v = c.args.version.now in
    let added : c.push.new.self ≡ c.args.file ∷ [] = c.in_ok-push.ensures.ok ∙ ap (λ (fs : List FileMeta). fs ++ c.args.file ∷ []) c.new-added.ensures in
    rw (c.number-number.ensures.value, c.epoch.ensures.value, c.next_file-next_file.ensures.value, c.new.ensures, added)
    (flush_applies v c.args.flushed c.args.file c.number-number.ensures.sound c.requires.newer c.requires.place.0 c.requires.place.1)
