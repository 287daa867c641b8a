use Rattle.std.proofs.Common.{◌≡◌, None, sym, subst, ◌∙◌, rules, arith, List, ◌++◌, ap}
use Rattle.std.proofs.lemmas.Fn.{filter_same}
use Rattle.std.proofs.lemmas.Grind.{common_steps}
use Rattle.lsm_edit.specs.declared.file.FileMeta.{FileMeta}
use Rattle.lsm_edit.specs.Version.{after_apply, VersionValue, files_after, files_without, apply_fault}
use Rattle.lsm_edit.proofs.VersionLaws.{applied_is, stays}
use Rattle.lsm_edit.proofs.version.Version.apply_valid.Goals as goal

pub invariant_of-self-2 : goal.invariant_of-self-2
invariant_of-self-2 c =
    let e = c.args.edit.now in
    let listed : List FileMeta = c.self.inside.listed.items in
    let kept : c.retain.new.self.items ≡ files_without e.removed listed = filter_same _ (λ (f : FileMeta). stays e.removed f) _ (λ x b f k. search rules) _ _ c.retain.ensures.filtered ∙ ap (files_without e.removed) c.in_ok-reserve.ensures.items in
    let appended : c.append.new.self.items ≡ c.retain.new.self.items ++ c.in_ok-added.added.items = grind (arith, common_steps) in
    let files : c.append.new.self.items ≡ files_after listed e =
    appended ∙ ap (λ (fs : List FileMeta). fs ++ c.in_ok-added.added.items) kept ∙ ap (λ (fs : List FileMeta). files_without e.removed listed ++ fs) (c.in_ok-added.ensures ∙ c.as_slice.ensures) in
    rw files (applied_is _ e c.self.invariant c.requires.sound (subst (λ (v : VersionValue). apply_fault v e ≡ None) (sym c.self.view_is) c.requires.applies))

pub returns-clause-ok : goal.returns-clause-ok
returns-clause-ok c =
    let e = c.args.edit.now in
    let listed : List FileMeta = c.self.inside.listed.items in
    let kept : c.retain.new.self.items ≡ files_without e.removed listed = filter_same _ (λ (f : FileMeta). stays e.removed f) _ (λ x b f k. search rules) _ _ c.retain.ensures.filtered ∙ ap (files_without e.removed) c.in_ok-reserve.ensures.items in
    let appended : c.append.new.self.items ≡ c.retain.new.self.items ++ c.in_ok-added.added.items = grind (arith, common_steps) in
    let files : c.append.new.self.items ≡ files_after listed e =
    appended ∙ ap (λ (fs : List FileMeta). fs ++ c.in_ok-added.added.items) kept ∙ ap (λ (fs : List FileMeta). files_without e.removed listed ++ fs) (c.in_ok-added.ensures ∙ c.as_slice.ensures) in ap (λ (fs : List FileMeta). record { number = e.number; flushed = e.flushed; epoch = e.epoch; next_file = e.next_file; files = fs }) files ∙ ap (λ (v : VersionValue). after_apply v e) c.self.view_is
