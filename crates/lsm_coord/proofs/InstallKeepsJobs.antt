-- An install of what a merge keeps leaves every other job sound.
use Rattle.std.proofs.Common.{◌≡◌, ℕ, true, List, inl, inr, refl, sym, subst, ◌∙◌, Some}
use Rattle.std.specs.List.{find}
use Rattle.lsm_key.specs.Sets.{IsIn}
use Rattle.lsm_key.proofs.Lists.{any_is}
use Rattle.lsm_claim.specs.declared.ending.Ending.TheVariants as ending
use Rattle.lsm_claim.specs.declared.job.JobId.{JobId}
use Rattle.lsm_claim.specs.declared.job.LiveJob.{LiveJob}
use Rattle.lsm_claim.specs.Book.{IsBook, after_settling, holds}
use Rattle.lsm_claim.specs.Jobs.{same_job_id}
use Rattle.lsm_table.specs.Tables.{Opened}
use Rattle.lsm_edit.specs.Served.{IsServed}
use Rattle.lsm_edit.specs.Version.{IsVersion}
use Rattle.lsm_edit.proofs.PlacesInOrder.{placed_meta}
use Rattle.lsm_msg.specs.declared.job.JobResult.{JobResult}
use Rattle.lsm_msg.specs.Installs.{entries_of}
use Rattle.lsm_msg.specs.Merge.{HoldsKept}
use Rattle.lsm_msg.proofs.PlacesAfterInstall.{new_number, place_cases}
use Rattle.lsm_msg.proofs.InstallReads.{kept_adds_no_entry}
use Rattle.lsm_msg.proofs.OtherJobs.{installs_keep_jobs}
use Rattle.lsm_coord.specs.declared.coord.install.Install.TheVariants as became
use Rattle.lsm_coord.specs.Contract.Installing.{Became, HoldsSoundMerge, IsInstallDone, install_edit_of}
use Rattle.lsm_coord.specs.Contract.Memory.{AreLegal}
use Rattle.lsm_coord.specs.Contract.Sound.{AreWrittenBy, IsSound, KeepsSound}
use Rattle.lsm_coord.specs.Contract.Value.{CoordValue}
use Rattle.lsm_coord.proofs.InstallOutcomes.{done_applies, done_is, done_spelled, held_by, installs_of, live_is, next_served, stays_apart}
use Rattle.lsm_coord.proofs.InstallSteps.{inputs_by_want, job_of_live, one_live}
use Rattle.lsm_coord.proofs.OpenedOutputs.{tables_one}
use Rattle.lsm_coord.proofs.GiveBackSteps.{live_before, same_name}

pub install_keeps : (old new : CoordValue) (claim : LiveJob) (made : JobResult) (number : ℕ) (files : List ℕ) → IsBook old.book → IsServed old.served → IsVersion old.served.version → AreLegal old.served.version.files old.book.live
    → Became old claim made (became.Done number files) new → HoldsSoundMerge old claim.id made → KeepsSound old new
install_keeps old new claim made number files book served version all_legal b holds_merge other sound held =
    let job = holds_merge.0 in
    let merge = holds_merge.3 in
    let live = b.0 in
    let found = live_is old claim.id live b.1 in
    let ts = b.2 in
    let outputs = (b.3).outputs in
    let install : IsInstallDone old live ts new = b.4 in
    let new_is = done_is old live ts new install in
    let edit = install_edit_of old.served.version live.want ts in
    let legal = all_legal live found.0 in
    let installs = installs_of old.limits.block old.served live.want made.tables install.text ts legal outputs (done_spelled old live ts new install) (done_applies old live ts new install) in
    let tables : merge.tables ≡ ts = tables_one made.tables merge.tables ts merge.opened outputs.tables in
    let kept = subst (λ (us : List Opened). HoldsKept merge.inputs job.points job.deeper (entries_of us)) tables merge.kept in
    let none_added = kept_adds_no_entry old.served.places live.want ts merge.inputs job.points job.deeper (inputs_by_want old.served live.want job merge.inputs served (job_of_live old claim.id live job book b.1 holds_merge.1 holds_merge.2) merge.are) kept in
    let after = after_settling old.book live.id ending.Installed in
    let held_now : holds after other.id ≡ true = subst (λ (c : CoordValue). holds c.book other.id ≡ true) new_is held in
    let own = sound.claimed.live in
    let k = any_is (λ j. same_job_id j.id other.id) after.live held_now in
    let k_is : k.0 ≡ own = one_live old.book.live book.rising k.0 own (live_before old.book live.id ending.Installed k.0 k.1) sound.claimed.member (same_name (k.0).id other.id k.2 ∙ sym sound.claimed.named) in
    let stays : IsIn own after.live = subst (λ (j : LiveJob). IsIn j after.live) k_is k.1 in
    let live_held = held_by old.book live live.id (subst (λ (i : JobId). find (λ j. same_job_id j.id i) old.book.live ≡ Some live) (sym found.1) b.1) in
    let apart = stays_apart old.book live.id live own book live_held found.0 refl stays in
    let keep = installs_keep_jobs old.served live.want own.want edit ts version served legal installs apart (all_legal own sound.claimed.member) in
    let of_want = keep.1 other sound.claimed.of_want in
    let written : (at : ℕ) → AreWrittenBy old.served other at → AreWrittenBy (next_served old.served live.want ts) other at = λ at by p m input e n.
    elim (place_cases old.served live.want edit ts version served legal installs p m) [
      | inl output ↦
          let there : IsIn p.meta old.served.version.files = ((sound.claimed.of_want.inputs p.meta).0 input).0 in
          absurd (new_number old.served live.want edit ts version served legal installs p.meta p.meta (placed_meta edit.added ts p output) there refl)
      | inr before ↦ by p before.0 input e n
    ] in
    subst (λ (c : CoordValue). IsSound c other) (sym new_is) (record {
      claimed = record { live = own; member = stays; named = sound.claimed.named; of_want = of_want.0 };
      snapshots = λ x m. elim (sound.snapshots x m) [ inl point ↦ inl point | inr by ↦ inr (written x.at by) ];
      block = sound.block;
      deeper = of_want.1 none_added sound.deeper;
    })
