use Rattle.std.proofs.Common.{◌≡◌, ◌+◌, ◌≤◌, ℕ, List, length, map, refl, ap, subst, ◌∙◌, arith}
use Rattle.lsm_key.specs.declared.limits.TheConstants.{MAX_POINTS}
use Rattle.lsm_edit.specs.declared.file.FileMeta.{FileMeta}
use Rattle.lsm_table.specs.Tables.{IsTarget}
use Rattle.lsm_edit.specs.Served.{ServedValue}
use Rattle.lsm_edit.specs.Version.{IsVersion}
use Rattle.lsm_msg.specs.declared.job.JobParts.{JobParts}
use Rattle.lsm_pick.specs.Rule.{inputs_of}
use Rattle.lsm_coord.specs.declared.snapshot.Snapshot.{Snapshot}
use Rattle.lsm_coord.specs.Contract.Value.{CoordValue}
use Rattle.lsm_coord.specs.Contract.Picking.{ArePointsOf, IsJobFor, deeper_files, range_of}
use Rattle.lsm_coord.proofs.PickedJobs.{within_rules}
use Rattle.lsm_coord.proofs.coord.Coord.job_of.Goals as goal

pub unwrap-requires : goal.unwrap-requires
unwrap-requires g c =
    let m = c.self.inside in
    let want = c.args.want.now in
    let parts : JobParts = record { id = record { epoch = c.epoch.result; number = c.made.result + 1 }; level = want.level; block = m.limits.block; points = c.from_vec.result; inputs = c.from_vec-2.result; deeper = c.from_vec-3.result } in
    let files : c.listing.result.files.now ≡ m.versions.served.version.files = c.listing.ensures.files ∙ ap (λ (v : ServedValue). v.version.files) c.served.ensures.served in
    let points : ArePointsOf m.live.items c.from_vec.result = rw c.from_vec.ensures (subst (λ (xs : List Snapshot). ArePointsOf xs c.in_ok-points.points.items) c.deref.ensures.value c.in_ok-points.ensures.all) in
    let few : length c.from_vec.result ≤ MAX_POINTS = omega (arith, ap (λ (xs : List ℕ). length xs) c.from_vec.ensures, c.in_ok-points.ensures.few, ap (λ (xs : List Snapshot). length xs) c.deref.ensures.value, c.self.invariant.0.few) in
    let of : IsJobFor c.args.self.now want parts = subst (λ (v : CoordValue). IsJobFor v want parts) c.self.view_is (record {
      id = λ i. record { epoch = c.epoch.ensures i; number = c.made.ensures.value i + 1 };
      level = refl;
      block = refl;
      points = points;
      inputs = c.from_vec-2.ensures ∙ c.in_ok-inputs.ensures ∙ ap (λ (fs : List FileMeta). inputs_of fs want) files;
      deeper = c.from_vec-3.ensures ∙ c.in_ok-deeper.ensures ∙ ap (λ (fs : List FileMeta). map range_of (deeper_files fs want)) files;
    }) in
    let version : IsVersion c.args.self.now.served.version = subst (λ (v : CoordValue). IsVersion v.served.version) c.self.view_is (subst (λ (v : ServedValue). IsVersion v.version) c.served.ensures.served c.listing.ensures.sound.1) in
    let opened : 1 ≤ c.args.self.now.served.version.epoch = subst (λ (v : CoordValue). 1 ≤ v.served.version.epoch) c.self.view_is c.self.invariant.0.opened in
    let epoch : c.args.self.now.book.epoch ≡ c.args.self.now.served.version.epoch = subst (λ (v : CoordValue). v.book.epoch ≡ v.served.version.epoch) c.self.view_is c.self.invariant.0.same_epoch in
    let target : IsTarget c.args.self.now.limits.block = subst (λ (v : CoordValue). IsTarget v.limits.block) c.self.view_is (m.limits.block_some, m.limits.block_most) in
    c.new.ensures.within.1 (within_rules c.args.self.now want parts version opened epoch target c.requires.1 of few)
