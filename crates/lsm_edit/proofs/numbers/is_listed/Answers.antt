use Rattle.std.proofs.Common.{◌∙◌, ap, sym, rules, is_ok}
use Rattle.std.specs.Prelude.{nat_eq}
use Rattle.std.proofs.lemmas.Bool.{eq-eqb, eqb-true, false_from_ne_true}
use Rattle.std.proofs.lemmas.Cmp.{ranked}
use Rattle.std.proofs.lemmas.List.Sorted.{answers_always}
use Rattle.lsm_edit.specs.declared.file.FileMeta.{FileMeta}
use Rattle.lsm_edit.specs.File.{same_file}
use Rattle.lsm_edit.proofs.ListedFiles.{listed_at, unlisted}
use Rattle.lsm_edit.proofs.NumberSearch.{files_rise, searched}
use Rattle.lsm_edit.proofs.numbers.is_listed.Goals as goal

pub returns-in-Ok : goal.returns-in-Ok
returns-in-Ok c =
    let fs = c.args.files.now in
    let f = c.args.file.now in
    let found = c.in-Ok.ensures.position (λ (g : FileMeta). g.number) (answers_always _ _ _ (λ f a r g called. search rules)) in
    c.eq.ensures ∙ ap (same_file f) c.index-files-at.is ∙ sym (listed_at fs f c.in-Ok.at c.index-files-at.result c.requires c.in-Ok.ensures.bound (ranked _ f.number _ (sym (found c.index-files-at.result))))

pub returns-in-Err : goal.returns-in-Err
returns-in-Err c =
    let fs = c.args.files.now in
    let n = c.args.file.now.number in
    let found = c.binary_search_by_key.ensures in
    let by_number = found.position (λ (g : FileMeta). g.number) (answers_always _ _ _ (λ f a r g called. search rules)) in
    let none = searched (λ (g : FileMeta). g.number) n (λ g. nat_eq g.number n) (λ g e. eq-eqb g.number n e) (λ g differ. false_from_ne_true (nat_eq g.number n) (λ h. differ (eqb-true g.number n h))) fs c.binary_search_by_key.result (files_rise fs c.requires) found.bound by_number in
    sym (unlisted fs c.args.file.now (sym none ∙ ap is_ok c.in-Err.is))
