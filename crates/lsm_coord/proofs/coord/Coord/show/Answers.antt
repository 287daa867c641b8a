use Rattle.std.proofs.Common.{◌≡◌, ap, sym, subst, ◌∙◌, refl, arith, map, Some, List}
use Rattle.lsm_edit.specs.declared.file.FileMeta.{FileMeta}
use Rattle.lsm_edit.specs.Served.{IsServed, ServedValue}
use Rattle.lsm_edit.specs.Version.{IsVersion}
use Rattle.lsm_versions.proofs.ManifestReplay.{removed_by_one}
use Rattle.lsm_coord.specs.Contract.Memory.{IsFit}
use Rattle.lsm_coord.specs.Model.State.{current, last_flushed, current_files}
use Rattle.lsm_coord.specs.Model.Step.{Lists}
use Rattle.lsm_coord.specs.Contract.Shows.{place_of}
use Rattle.lsm_coord.proofs.StateRefusals.{show_may}
use Rattle.lsm_coord.proofs.CurrentVersion.{lists_current}
use Rattle.lsm_coord.proofs.ShownVersions.{version_count, flushed_is, files_are}
use Rattle.lsm_coord.proofs.coord.Coord.show.Goals as goal

pub returns-clause-step : goal.returns-clause-step
returns-clause-step g c =
    rw (← c.self.view_is) (λ s h.
    let t = h.tables in
    let count = version_count c.self.inside.versions.stored.edits c.self.inside.versions.served s t in
    let number : c.listing.result.number ≡ current s = omega (arith, count, c.listing.ensures.number, ap (λ (v : ServedValue). v.version.number) c.served.ensures.served) in
    let seq : last_flushed s ≡ c.listing.result.flushed = flushed_is c.self.inside.versions.stored.edits c.self.inside.versions.served s t ∙ sym (c.listing.ensures.flushed ∙ ap (λ (v : ServedValue). v.version.flushed) c.served.ensures.served) in
    let files : current_files s ≡ map place_of c.listing.result.files.now = files_are c.self.inside.versions.stored.edits c.self.inside.versions.served s t ∙ ap (λ (fs : List FileMeta). map place_of fs) (sym (c.listing.ensures.files ∙ ap (λ (v : ServedValue). v.version.files) c.served.ensures.served)) in
    let lists : Lists s c.listing.result.number c.listing.result.flushed (map place_of c.listing.result.files.now) =
    rw number (lists_current s (omega (arith, count)) ∙ (λ i. Some (record { flushed = seq i; files = files i }))) in
    (s, (show_may s h.up, (number, lists, refl)), h))

pub returns-clause-fit : goal.returns-clause-fit
returns-clause-fit g c = subst IsFit c.self.view_is (record {
  manifest = c.served.ensures.set.folds;
  once = removed_by_one _ _ c.served.ensures.set.folds;
  version = subst (λ (v : ServedValue). IsVersion v.version) c.served.ensures.served c.listing.ensures.sound.1;
  served = subst IsServed c.served.ensures.served c.listing.ensures.sound.0;
  retired = c.served.ensures.set.retired;
  kept = c.served.ensures.set.kept;
  logged = c.self.invariant.1;
  book = c.live-live.ensures.sound;
  epoch = c.self.invariant.0.same_epoch;
  legal = c.self.invariant.0.legal;
  orderly = c.self.invariant.0.orderly;
})
