use Rattle.lsm_store.proofs.CompactionAnswers.{answers_left, answers_made, answers_reached, answers_refused, answers_sound}
use Rattle.lsm_store.proofs.Compactions.{back_keeps, inputs_of_version, left_again, made_of_inputs, merges_by, named, none_same, picked_by, picked_memory, sound_by}
use Rattle.lsm_store.proofs.compact.compact_in.Goals as goal

pub returns-clause-err : goal.returns-clause-err
returns-clause-err g c =
    let know = c.show-listing.ensures.fit in
    left_again _ _ c.in-Some.claim c.in-Some.job know.version know.served know.book (picked_by c.args.pointers c.as_deref.result _ _ _ _ _ c.in-Some.is c.as_deref.ensures.cases c.in_ok-claim.ensures.ok) _ c.give_back-in-Err.ensures.book

pub returns-clause-refused : goal.returns-clause-refused
returns-clause-refused g c =
    let know = c.show-listing.ensures.fit in
    rw c.into.ensures (picked_memory _ _ c.in-Some.claim c.in-Some.job know.version know.served know.book (picked_by c.args.pointers c.as_deref.result _ _ _ _ _ c.in-Some.is c.as_deref.ensures.cases c.in_ok-claim.ensures.ok))

pub returns-clause-sound : goal.returns-clause-sound
returns-clause-sound g c =
    let know = c.show-listing.ensures.fit in
    back_keeps _ _ c.in-Some.claim c.in-Some.job know.version know.served know.book (picked_by c.args.pointers c.as_deref.result _ _ _ _ _ c.in-Some.is c.as_deref.ensures.cases c.in_ok-claim.ensures.ok) _ c.pick_after.ensures.sound c.give_back-in-Err.ensures.sound c.give_back-in-Err.ensures.book

pub returns-in-Ok-None-clause-ok : goal.returns-in-Ok-None-clause-ok
returns-in-Ok-None-clause-ok g c =
    let know = c.show-listing.ensures.fit in
    let picked = picked_by c.args.pointers c.as_deref.result _ _ _ _ _ c.in-Some.is c.as_deref.ensures.cases c.in_ok-claim.ensures.ok in (
      left_again _ _ c.in-Some.claim c.in-Some.job know.version know.served know.book picked _ c.give_back.ensures.book,
      λ s h. absurd (none_same _ _ c.in-Some.claim c.in-Some.job know.version know.served know.book picked s h (merges_by _ _ _ _ c.in-Ok-None.field-0-is (c.in-Ok-None.ensures (inputs_of_version _ _ c.in-Some.claim c.in-Some.job know.version know.served know.book picked)))),
    )

pub returns-in-Ok-None-clause-sound : goal.returns-in-Ok-None-clause-sound
returns-in-Ok-None-clause-sound g c =
    let know = c.show-listing.ensures.fit in
    back_keeps _ _ c.in-Some.claim c.in-Some.job know.version know.served know.book (picked_by c.args.pointers c.as_deref.result _ _ _ _ _ c.in-Some.is c.as_deref.ensures.cases c.in_ok-claim.ensures.ok) _ c.pick_after.ensures.sound c.give_back.ensures.sound c.give_back.ensures.book

pub returns-in-Ok-Some-clause-err : goal.returns-in-Ok-Some-clause-err
returns-in-Ok-Some-clause-err g c =
    let know = c.show-listing.ensures.fit in
    answers_left _ _ _ c.in-Some.claim c.in-Some.job know.version know.served know.book (picked_by c.args.pointers c.as_deref.result _ _ _ _ _ c.in-Some.is c.as_deref.ensures.cases c.in_ok-claim.ensures.ok) c.in-Ok-Some.made c.install-installed.result c.install-installed.ensures.err

pub returns-in-Ok-Some-clause-ok : goal.returns-in-Ok-Some-clause-ok
returns-in-Ok-Some-clause-ok g c =
    let know = c.show-listing.ensures.fit in
    let merge = merges_by _ _ _ _ c.in-Ok-Some.field-0-is (c.in-Ok-Some.ensures (inputs_of_version _ _ c.in-Some.claim c.in-Some.job know.version know.served know.book (picked_by c.args.pointers c.as_deref.result _ _ _ _ _ c.in-Some.is c.as_deref.ensures.cases c.in_ok-claim.ensures.ok))) in
    answers_made _ _ _ c.in-Some.claim c.in-Some.job know.version know.served know.book (picked_by c.args.pointers c.as_deref.result _ _ _ _ _ c.in-Some.is c.as_deref.ensures.cases c.in_ok-claim.ensures.ok) _ merge.0 merge.1 c.install-installed.result c.install-installed.ensures.done c.install-installed.ensures.stale

pub returns-in-Ok-Some-clause-refused : goal.returns-in-Ok-Some-clause-refused
returns-in-Ok-Some-clause-refused g c =
    let know = c.show-listing.ensures.fit in
    let merge = merges_by _ _ _ _ c.in-Ok-Some.field-0-is (c.in-Ok-Some.ensures (inputs_of_version _ _ c.in-Some.claim c.in-Some.job know.version know.served know.book (picked_by c.args.pointers c.as_deref.result _ _ _ _ _ c.in-Some.is c.as_deref.ensures.cases c.in_ok-claim.ensures.ok))) in
    answers_refused _ _ c.install-installed.new.coord c.in-Some.claim c.in-Some.job know.version know.served know.book (picked_by c.args.pointers c.as_deref.result _ _ _ _ _ c.in-Some.is c.as_deref.ensures.cases c.in_ok-claim.ensures.ok) _ merge.0 merge.1 c.install-installed.result c.install-installed.ensures.refused

pub returns-in-Ok-Some-clause-sound : goal.returns-in-Ok-Some-clause-sound
returns-in-Ok-Some-clause-sound g c =
    let know = c.show-listing.ensures.fit in
    let merge = merges_by _ _ _ _ c.in-Ok-Some.field-0-is (c.in-Ok-Some.ensures (inputs_of_version _ _ c.in-Some.claim c.in-Some.job know.version know.served know.book (picked_by c.args.pointers c.as_deref.result _ _ _ _ _ c.in-Some.is c.as_deref.ensures.cases c.in_ok-claim.ensures.ok))) in
    let picked = picked_by c.args.pointers c.as_deref.result _ _ _ _ _ c.in-Some.is c.as_deref.ensures.cases c.in_ok-claim.ensures.ok in
    let sound = sound_by _ _ _ _ c.in-Some.is c.in_ok-claim.ensures.job in
    let second = c.install-installed.ensures.sound (c.in-Some.job, named _ _ _ _ know.version know.served know.book picked, sound, made_of_inputs _ _ _ _ know.version know.served know.book picked _ merge.1) in
    answers_sound _ _ _ c.in-Some.claim c.in-Some.job know.version know.served know.book picked _ merge.0 merge.1 c.install-installed.result c.pick_after.ensures.sound second c.install-installed.ensures.done c.install-installed.ensures.stale c.install-installed.ensures.err

pub returns-in-Ok-Some-clause-step : goal.returns-in-Ok-Some-clause-step
returns-in-Ok-Some-clause-step g c = λ dispatcher message index s h.
    let know = c.show-listing.ensures.fit in
    let merge = merges_by _ _ _ _ c.in-Ok-Some.field-0-is (c.in-Ok-Some.ensures (inputs_of_version _ _ c.in-Some.claim c.in-Some.job know.version know.served know.book (picked_by c.args.pointers c.as_deref.result _ _ _ _ _ c.in-Some.is c.as_deref.ensures.cases c.in_ok-claim.ensures.ok))) in
    let picked = picked_by c.args.pointers c.as_deref.result _ _ _ _ _ c.in-Some.is c.as_deref.ensures.cases c.in_ok-claim.ensures.ok in
    let sound = sound_by _ _ _ _ c.in-Some.is c.in_ok-claim.ensures.job in
    let steps = c.install-installed.ensures.step message (c.in-Some.job, named _ _ _ _ know.version know.served know.book picked, sound, made_of_inputs _ _ _ _ know.version know.served know.book picked _ merge.1) in
    answers_reached _ _ _ c.in-Some.claim c.in-Some.job know.version know.served know.book picked _ merge.0 merge.1 c.install-installed.result dispatcher message index s (c.in_ok-claim.ensures.step dispatcher index s h) steps c.install-installed.ensures.stale c.install-installed.ensures.err
