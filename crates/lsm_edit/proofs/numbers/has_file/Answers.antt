use Rattle.std.proofs.Common.{◌∙◌, rules}
use Rattle.std.proofs.lemmas.Bool.{eq-eqb, eqb-true, false_from_ne_true}
use Rattle.std.proofs.lemmas.List.Sorted.{answers_always}
use Rattle.std.specs.Prelude.{nat_eq}
use Rattle.lsm_edit.specs.declared.file.FileMeta.{FileMeta}
use Rattle.lsm_edit.proofs.NumberSearch.{searched, files_rise}
use Rattle.lsm_edit.proofs.numbers.has_file.Goals as goal

pub returns : goal.returns
returns c =
    let n = c.args.number in
    let found = c.binary_search_by_key.ensures in
    let by_number = found.position (λ (f : FileMeta). f.number) (answers_always _ _ _ (λ f a r g called. search rules)) in
    c.is_ok.ensures.value ∙ searched (λ (f : FileMeta). f.number) n (λ f. nat_eq f.number n) (λ f e. eq-eqb f.number n e) (λ f differ. false_from_ne_true (nat_eq f.number n) (λ h. differ (eqb-true f.number n h))) c.args.files.now c.binary_search_by_key.result (files_rise c.args.files.now c.requires) found.bound by_number
