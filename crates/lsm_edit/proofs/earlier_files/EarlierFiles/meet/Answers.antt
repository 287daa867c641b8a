use Rattle.std.proofs.Common.{◌≡◌, List, ℕ, false, eqb, sym, ap, subst, ◌∙◌}
use Rattle.std.specs.Cmp.Lexicographic.{slice_cmp}
use Rattle.std.specs.List.{list_any}
use Rattle.std.specs.Ordering.{nat_cmp, is_le}
use Rattle.std.proofs.lemmas.Bool.{ne_eqb}
use Rattle.lsm_key.proofs.KeyRanges.{le_not_gt}
use Rattle.lsm_edit.specs.declared.file.FileMeta.{FileMeta}
use Rattle.lsm_edit.specs.File.{meets_file}
use Rattle.lsm_edit.proofs.EarlierFiles.{none_at_zero, none_begins, of_this, of_another}
use Rattle.lsm_edit.proofs.earlier_files.EarlierFiles.meet.Goals as goal

pub returns-then-level-eq0 : goal.returns-then-level-eq0
returns-then-level-eq0 c =
    subst (λ (level : ℕ). false ≡ list_any (meets_file level c.args.smallest.now c.args.largest.now) c.args.self.now) (sym c.if-level-eq0.true)
    (sym (none_at_zero c.args.smallest.now c.args.largest.now c.args.self.now))

pub returns-then-begin-level : goal.returns-then-begin-level
returns-then-begin-level c =
    let lo = c.args.smallest.now in
    let end = c.in-Some.end.now in
    let told = of_this c.self.inside.ends c.self.inside.files.items c.self.invariant c.args.level lo c.in_ok-clone.field-0 c.range.result (c.range.ensures.in_range tt) (c.in-Some.begin.now, end) _ c.in-Some.ensures.steps c.if-begin-level.true in
    c.is_le.ensures ∙ ap is_le c.cmp.ensures ∙ le_not_gt (slice_cmp nat_cmp lo end) ∙ told
    ∙ ap (λ (files : List FileMeta). list_any (meets_file c.args.level lo c.in_ok-clone.field-0) files) c.self.view_is
    ∙ ap (λ (hi : List ℕ). list_any (meets_file c.args.level lo hi) c.args.self.now) c.in_ok-clone.ensures.cases

pub returns-else-begin-level : goal.returns-else-begin-level
returns-else-begin-level c =
    let lo = c.args.smallest.now in
    let other : eqb c.in-Some.begin.now.0 c.args.level ≡ false = ne_eqb c.in-Some.begin.now.0 c.args.level c.if-begin-level.false in
    let told = of_another c.self.inside.ends c.self.inside.files.items c.self.invariant c.args.level lo c.in_ok-clone.field-0 c.range.result (c.range.ensures.in_range tt) (c.in-Some.begin.now, c.in-Some.end.now) _ c.in-Some.ensures.steps other in
    other ∙ told
    ∙ ap (λ (files : List FileMeta). list_any (meets_file c.args.level lo c.in_ok-clone.field-0) files) c.self.view_is
    ∙ ap (λ (hi : List ℕ). list_any (meets_file c.args.level lo hi) c.args.self.now) c.in_ok-clone.ensures.cases

pub returns-in-None : goal.returns-in-None
returns-in-None c =
    let lo = c.args.smallest.now in
    none_begins c.self.inside.ends c.self.inside.files.items c.self.invariant c.args.level lo c.in_ok-clone.field-0 c.range.result (c.range.ensures.in_range tt) c.in-None.ensures.steps.0
    ∙ ap (λ (files : List FileMeta). list_any (meets_file c.args.level lo c.in_ok-clone.field-0) files) c.self.view_is
    ∙ ap (λ (hi : List ℕ). list_any (meets_file c.args.level lo hi) c.args.self.now) c.in_ok-clone.ensures.cases
