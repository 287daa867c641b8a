use Rattle.std.proofs.Common.{◌≡◌, ◌+◌, ◌∙◌, ◌++◌, false, List, ℕ, sym, ap, subst, arith}
use Rattle.lsm_key.specs.Sets.{IsIn}
use Rattle.lsm_edit.specs.declared.edit.EditKind.TheVariants.{Install}
use Rattle.lsm_edit.specs.declared.file.FileMeta.{FileMeta}
use Rattle.lsm_edit.specs.Edit.{AreAdded}
use Rattle.lsm_edit.specs.Next.{number_after}
use Rattle.lsm_edit.specs.Version.{has_overlap, files_without}
use Rattle.lsm_coord.specs.Contract.Installing.{records}
use Rattle.lsm_coord.proofs.InstallEdits.{inputs_there, none_overlaps, records_added, records_end, recorded_of}
use Rattle.lsm_coord.proofs.coord.install.edit_of.Goals as goal

pub install-requires-clause-present : goal.install-requires-clause-present
install-requires-clause-present c = λ n m.
    inputs_there c.args.version.now c.args.want.now c.requires.legal c.args.tables.now c.requires.inside n (subst (IsIn n) c.in_ok-removed.ensures m)

pub install-requires-clause-added : goal.install-requires-clause-added
install-requires-clause-added c =
    let v = c.args.version.now in
    let level = c.requires.orderly.level in
    let first = c.next_file.ensures in
    let fits = c.requires.fits.next_file in
    let few = c.requires.few in
    let all = records_added (c.args.want.now.level + 1) v.next_file c.args.tables.now (omega arith) (omega (arith, level)) (omega (arith, first.value, first.bound.0)) fits few c.requires.sound in
    let is = c.from_vec.ensures ∙ c.in_ok-files.ensures ∙ ap (λ (n : ℕ). records (c.args.want.now.level + 1) n c.args.tables.now) first.value in
    subst (AreAdded Install) (sym is) all

pub install-requires-clause-fresh : goal.install-requires-clause-fresh
install-requires-clause-fresh c = λ f m.
    let v = c.args.version.now in
    let is = c.from_vec.ensures ∙ c.in_ok-files.ensures ∙ ap (λ (n : ℕ). records (c.args.want.now.level + 1) n c.args.tables.now) c.next_file.ensures.value in
    (recorded_of (c.args.want.now.level + 1) v.next_file c.args.tables.now f (subst (IsIn f) is m)).5

pub install-requires-clause-room : goal.install-requires-clause-room
install-requires-clause-room c =
    let v = c.args.version.now in
    let is = c.from_vec.ensures ∙ c.in_ok-files.ensures ∙ ap (λ (n : ℕ). records (c.args.want.now.level + 1) n c.args.tables.now) c.next_file.ensures.value in
    let end = ap (number_after v.next_file) is ∙ records_end (c.args.want.now.level + 1) v.next_file c.args.tables.now in
    let fits = c.requires.fits.next_file in
    omega (arith, end, fits)

pub install-requires-clause-disjoint : goal.install-requires-clause-disjoint
install-requires-clause-disjoint c =
    let v = c.args.version.now in
    let want = c.args.want.now in
    let is = c.from_vec.ensures ∙ c.in_ok-files.ensures ∙ ap (λ (n : ℕ). records (want.level + 1) n c.args.tables.now) c.next_file.ensures.value in
    let none = none_overlaps v want c.requires.legal c.args.tables.now c.requires.inside c.next_file.ensures.sound c.requires.ascending in
    subst (λ (fs : List FileMeta). has_overlap (files_without c.in_ok-removed.removed v.files ++ fs) ≡ false) (sym is)
    (subst (λ (ns : List ℕ). has_overlap (files_without ns v.files ++ records (want.level + 1) v.next_file c.args.tables.now) ≡ false) (sym c.in_ok-removed.ensures) none)
