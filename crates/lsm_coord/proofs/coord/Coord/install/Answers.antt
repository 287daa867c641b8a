use Rattle.std.proofs.Common.{◌≡◌, ◌∙◌, ℕ, List, false, refl, sym, ap, subst}
use Rattle.std.specs.List.{find, list_any}
use Rattle.std.specs.Option.{option_copied}
use Rattle.lsm_claim.specs.declared.ending.Ending.TheVariants as ending
use Rattle.lsm_claim.specs.declared.job.LiveJob.{LiveJob}
use Rattle.lsm_claim.specs.declared.job.JobId.{JobId}
use Rattle.lsm_claim.specs.Jobs.{same_job_id}
use Rattle.lsm_claim.specs.Book.{IsBook, holds}
use Rattle.lsm_key.specs.Sets.{IsIn}
use Rattle.lsm_coord.proofs.InstallOutcomes.{after_install, became_done, put_same, found_none, found_some, unheld_after, with_book}
use Rattle.lsm_edit.specs.Served.{IsServed, ServedValue}
use Rattle.lsm_edit.specs.Version.{IsVersion}
use Rattle.lsm_versions.specs.Manifest.{VersionSetValue}
use Rattle.lsm_coord.specs.Contract.Logs.{IsCounted, IsLogged}
use Rattle.lsm_coord.specs.Contract.Memory.{AreLegal, AreJobWants}
use Rattle.lsm_coord.specs.Contract.Value.{CoordValue}
use Rattle.lsm_coord.proofs.InstallRefusals.{kept_steps, left_same, put_left, rejected_keeps, rejected_stored, stale_steps}
use Rattle.lsm_coord.proofs.InstallKeepsJobs.{install_keeps}
use Rattle.lsm_coord.proofs.InstallSteps.{install_steps}
use Rattle.lsm_coord.proofs.JobsStaySound.{nothing_keeps}
use Rattle.lsm_coord.proofs.GiveBackSteps.{epoch_after, legal_after, orderly_after}
use Rattle.lsm_coord.proofs.coord.Coord.install.Goals as goal

pub invariant_of-self : goal.invariant_of-self
invariant_of-self g c =
    let m = c.self.inside in
    let i = c.self.invariant.0 in (
      rw c.settle.ensures.book (record {
        recent = i.recent;
        begun = i.begun;
        waiting = i.waiting;
        opened = i.opened;
        same_epoch = epoch_after m.book c.args.claim.id ending.Installed ∙ i.same_epoch;
        legal = legal_after m.versions.served.version.files m.book c.args.claim.id ending.Installed i.legal;
        orderly = orderly_after m.book c.args.claim.id ending.Installed i.orderly;
        few = i.few;
      }),
      c.self.invariant.1,
      c.self.invariant.2,
    )

pub put_outputs-requires-clause-legal : goal.put_outputs-requires-clause-legal
put_outputs-requires-clause-legal g c =
    let found = found_some (λ j. same_job_id j.id c.id-id.result) c.live.result.now c.in-Some.job.now (sym c.job_named.ensures ∙ ap option_copied c.in-Some.is) in
    c.self.invariant.0.legal c.in-Some.job.now (subst (IsIn c.in-Some.job.now) c.live.ensures.all found.0)

pub put_outputs-requires-clause-orderly : goal.put_outputs-requires-clause-orderly
put_outputs-requires-clause-orderly g c =
    let found = found_some (λ j. same_job_id j.id c.id-id.result) c.live.result.now c.in-Some.job.now (sym c.job_named.ensures ∙ ap option_copied c.in-Some.is) in
    c.self.invariant.0.orderly c.in-Some.job.now (subst (IsIn c.in-Some.job.now) c.live.ensures.all found.0)

pub returns-in-None-clause-became : goal.returns-in-None-clause-became
returns-in-None-clause-became g c =
    let none = found_none (λ j. same_job_id j.id c.id-id.result) c.live.result.now (sym c.job_named.ensures ∙ ap option_copied c.in-None.is) in
    let unheld = ap (λ (js : List LiveJob). list_any (λ j. same_job_id j.id c.id-id.result) js) (sym c.live.ensures.all) ∙ none in
    let held = subst (λ (id : JobId). holds c.self.inside.book id ≡ false) c.id-id.ensures unheld in
    rw (c.settle.ensures.book, ← c.self.view_is) (held, c.id-id.ensures, c.epoch-epoch.ensures, with_book _ _ (unheld_after c.self.inside.book c.args.claim.id held))

pub invariant_of-self-in-Ok : goal.invariant_of-self-in-Ok
invariant_of-self-in-Ok g c =
    let m = c.self.inside in
    let listed = c.listing-listing.ensures.sound in
    let served : IsServed m.versions.served = subst IsServed c.served.ensures.served listed.0 in
    let version : IsVersion m.versions.served.version = subst (λ (s : ServedValue). IsVersion s.version) c.served.ensures.served listed.1 in
    let found = sym c.job_named.ensures ∙ ap option_copied c.in-Some.is in
    let live = (λ i. find (λ (j : LiveJob). same_job_id j.id (sym c.id-id.ensures i)) (sym c.live.ensures.all i)) ∙ found in
    let vs : VersionSetValue = c.put_outputs.new.versions in
    let same = put_same m.limits.block m.versions c.in-Some.job.now c.args.made.now c.in-Ok.put.number c.in-Ok.put.files vs c.in-Ok.ensures.ok in
    rw c.settle-in-Ok.ensures.book (
      after_install m.limits.block m.active m.frozen m.newest m.versions vs m.book c.args.claim.id c.in-Some.job.now c.args.made.now c.in-Ok.put.number c.in-Ok.put.files m.live.items c.self.invariant.0 c.live.ensures.sound served version live c.in-Ok.ensures.ok,
      subst (λ (n : ℕ). IsLogged m.active m.frozen m.newest n vs.stored.log) (sym same.0) (subst (λ (l : List (List ℕ)). IsLogged m.active m.frozen m.newest m.versions.served.version.flushed l) (sym same.1) c.self.invariant.1),
      subst (λ (l : List (List ℕ)). IsCounted m.frozen l m.logged m.frozen_upto) (sym same.1) c.self.invariant.2,
    )

pub returns-in-Ok-clause-became : goal.returns-in-Ok-clause-became
returns-in-Ok-clause-became g c =
    let found = sym c.job_named.ensures ∙ ap option_copied c.in-Some.is in
    let live = (λ i. find (λ (j : LiveJob). same_job_id j.id (sym c.id-id.ensures i)) (sym c.live.ensures.all i)) ∙ found in
    rw (c.settle-in-Ok.ensures.book, ← c.self.view_is)
    (became_done _ c.args.claim c.in-Some.job.now c.args.made.now c.in-Ok.put.number c.in-Ok.put.files c.put_outputs.new.versions live c.in-Ok.ensures.ok)

pub returns-in-Ok-clause-step : goal.returns-in-Ok-clause-step
returns-in-Ok-clause-step g c = λ message holds.
    let view = c.self.view_is in
    install_steps c.args.self.now _ c.args.claim c.args.made.now c.in-Ok.put.number c.in-Ok.put.files
    (subst (λ (v : CoordValue). IsBook v.book) view c.live.ensures.sound)
    (subst (λ (v : CoordValue). IsServed v.served) view (subst IsServed c.served.ensures.served c.listing-listing.ensures.sound.0))
    (subst (λ (v : CoordValue). IsVersion v.served.version) view (subst (λ (s : ServedValue). IsVersion s.version) c.served.ensures.served c.listing-listing.ensures.sound.1))
    (subst (λ (v : CoordValue). AreLegal v.served.version.files v.book.live) view c.self.invariant.0.legal)
    (subst (λ (v : CoordValue). AreJobWants v.book.live) view c.self.invariant.0.orderly)
    (returns-in-Ok-clause-became g c) (holds tt) message

pub invariant_of-self-in-Err : goal.invariant_of-self-in-Err
invariant_of-self-in-Err g c =
    let same = left_same c.args.made.now c.in-Err.why c.self.inside.versions c.put_outputs.new.versions c.in-Err.ensures.left in
    rw (same.0, same.1) c.self.invariant

pub returns-in-Err-clause-became : goal.returns-in-Err-clause-became
returns-in-Err-clause-became g c =
    let m = c.self.inside in
    let found = sym c.job_named.ensures ∙ ap option_copied c.in-Some.is in
    let live = (λ i. find (λ (j : LiveJob). same_job_id j.id (sym c.id-id.ensures i)) (sym c.live.ensures.all i)) ∙ found in
    rw (← c.self.view_is) (c.in-Some.job.now, live, refl, c.in-Err.ensures.why, put_left c.args.made.now c.in-Err.why _ c.put_outputs.new.versions c.in-Err.ensures.left)

pub returns-in-None-clause-sound : goal.returns-in-None-clause-sound
returns-in-None-clause-sound g c = λ holds. nothing_keeps c.args.self.now _ (returns-in-None-clause-became g c).3

pub returns-in-Err-clause-sound : goal.returns-in-Err-clause-sound
returns-in-Err-clause-sound g c = λ holds. rejected_keeps c.args.made.now c.in-Err.why c.args.self.now _ (returns-in-Err-clause-became g c).4

pub returns-in-Err-clause-failures : goal.returns-in-Err-clause-failures
returns-in-Err-clause-failures g c = (rejected_stored c.args.made.now c.in-Err.why c.args.self.now _ (returns-in-Err-clause-became g c).4).counted

pub returns-in-Ok-clause-sound : goal.returns-in-Ok-clause-sound
returns-in-Ok-clause-sound g c = λ merge.
    let view = c.self.view_is in
    install_keeps c.args.self.now _ c.args.claim c.args.made.now c.in-Ok.put.number c.in-Ok.put.files
    (subst (λ (v : CoordValue). IsBook v.book) view c.live.ensures.sound)
    (subst (λ (v : CoordValue). IsServed v.served) view (subst IsServed c.served.ensures.served c.listing-listing.ensures.sound.0))
    (subst (λ (v : CoordValue). IsVersion v.served.version) view (subst (λ (s : ServedValue). IsVersion s.version) c.served.ensures.served c.listing-listing.ensures.sound.1))
    (subst (λ (v : CoordValue). AreLegal v.served.version.files v.book.live) view c.self.invariant.0.legal)
    (returns-in-Ok-clause-became g c) (merge tt)

pub returns-in-None-clause-step : goal.returns-in-None-clause-step
returns-in-None-clause-step g c = λ message holds. stale_steps c.args.self.now _ (returns-in-None-clause-became g c).3 message

pub returns-in-Err-clause-step : goal.returns-in-Err-clause-step
returns-in-Err-clause-step g c = λ message holds.
    let b = returns-in-Err-clause-became g c in
    kept_steps c.args.self.now _ b.0 c.args.made.now c.in-Err.why b.3 b.4 message
