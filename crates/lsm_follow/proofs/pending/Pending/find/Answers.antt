use Rattle.std.proofs.Common.{◌≡◌, ◌∙◌, ◌<◌, List, ap, sym, subst, rules, is_ok, length, get_or}
use Rattle.std.specs.Prelude.{nat_eq}
use Rattle.std.proofs.lemmas.Bool.{eq-eqb, eqb-true, false_from_ne_true, true≢false}
use Rattle.std.proofs.lemmas.Cmp.{ranked}
use Rattle.std.proofs.lemmas.List.Sorted.{answers_always}
use Rattle.lsm_key.specs.Sets.{IsIn}
use Rattle.lsm_edit.specs.declared.file.FileMeta.{FileMeta}
use Rattle.lsm_edit.specs.Version.{FileNumbersRise, has_number}
use Rattle.lsm_edit.proofs.NumberSearch.{files_rise, searched}
use Rattle.lsm_follow.specs.Followers.{PendingValue}
use Rattle.lsm_follow.proofs.FilteredFiles.{has_there}
use Rattle.lsm_follow.proofs.pending.Pending.find.Goals as goal

pub returns-in-Ok-clause-some : goal.returns-in-Ok-clause-some
returns-in-Ok-clause-some c =
    let file = c.index-missing-at.result in
    let files : c.as_slice-missing.result.now ≡ c.args.self.now.missing = c.as_slice-missing.ensures.value ∙ ap (λ (p : PendingValue). p.missing) c.self.view_is in
    let found = c.in-Ok.ensures.position (λ (f : FileMeta). f.number) (answers_always _ _ _ (λ f a r g called. search rules)) in
    let number = ranked _ c.args.number _ (sym (found file)) in (
      (subst (λ (fs : List FileMeta). c.in-Ok.at < length fs) files c.in-Ok.ensures.bound, subst (λ (fs : List FileMeta). get_or fs c.in-Ok.at file ≡ file) files (sym c.index-missing-at.is)),
      ap (λ (f : FileMeta). f.number) c.index-missing-at.is ∙ number,
    )

pub returns-in-Err-clause-none : goal.returns-in-Err-clause-none
returns-in-Err-clause-none c =
    let n = c.args.number in
    let fs = c.as_slice-missing.result.now in
    let files : fs ≡ c.args.self.now.missing = c.as_slice-missing.ensures.value ∙ ap (λ (p : PendingValue). p.missing) c.self.view_is in
    let found = c.binary_search_by_key.ensures in
    let by_number = found.position (λ (f : FileMeta). f.number) (answers_always _ _ _ (λ f a r g called. search rules)) in
    let none = searched (λ (f : FileMeta). f.number) n (has_number n) (λ f e. eq-eqb f.number n e) (λ f differ. false_from_ne_true (nat_eq f.number n) (λ h. differ (eqb-true f.number n h))) fs c.binary_search_by_key.result (files_rise fs (subst FileNumbersRise (sym files) c.requires)) found.bound by_number in
    λ f m e. true≢false (sym (has_there fs f n (subst (λ (gs : List FileMeta). IsIn f gs) (sym files) m) e) ∙ sym none ∙ ap is_ok c.in-Err.is)
