use Rattle.std.proofs.Common.{◌≡◌, ◌∙◌, ℕ, List, Result, ap, sym, subst, get_or, is_ok, rules}
use Rattle.std.specs.List.Sorted.{IsNonDecreasing}
use Rattle.std.specs.Prelude.{nat_eq}
use Rattle.std.proofs.lemmas.Bool.{eq-eqb, true≢false}
use Rattle.std.proofs.lemmas.Cmp.{ranked}
use Rattle.std.proofs.lemmas.List.Sorted.{answers_always}
use Rattle.lsm_key.specs.Sets.{IsIn, is_among}
use Rattle.lsm_key.proofs.Lists.{none_is}
use Rattle.lsm_key.proofs.Membership.{IsIn-at}
use Rattle.lsm_edit.specs.declared.file.FileMeta.{FileMeta}
use Rattle.lsm_edit.specs.Version.{FileNumbersRise}
use Rattle.lsm_edit.proofs.ServedPlaces.{one_number}
use Rattle.lsm_work.specs.Held.{IsSpot}
use Rattle.lsm_work.specs.Workers.{TaskValue, numbers_of, missing}
use Rattle.lsm_work.proofs.HeldInputs.{numbers_held, missing_from, missing_if, numbers_ascend, inputs_rise, among_found, file_found, spot_found}
use Rattle.lsm_work.proofs.task.Task.awaited.Goals as goal

pub returns-in_default-clause-none : goal.returns-in_default-clause-none
returns-in_default-clause-none c = λ f m same.
    let inside = c.self.inside in
    let found = c.binary_search_by_key.ensures in
    let by_number = found.position (λ (g : FileMeta). g.number) (answers_always _ _ _ (λ g a r h called. search rules)) in
    let up = subst FileNumbersRise (sym c.inputs-inputs.ensures.all) (inputs_rise inside.job inside.numbers.items inside.tables.items c.self.invariant.0) in
    let none = sym (file_found c.inputs-inputs.result.now c.args.number c.binary_search_by_key.result up found.bound by_number) ∙ ap (λ (r : Result ℕ ℕ). is_ok r) c.in_default.is in
    let from = missing_from inside.job inside.numbers.items inside.tables.items c.self.invariant.0 f (subst (λ (t : TaskValue). IsIn f (missing t)) (sym c.self.view_is) m) in
    true≢false (sym (eq-eqb f.number c.args.number same) ∙ none_is (λ (g : FileMeta). nat_eq g.number c.args.number) c.inputs-inputs.result.now none f (subst (λ (fs : List FileMeta). IsIn f fs) (sym c.inputs-inputs.ensures.all) from.0))

pub returns-in-Ok-binary_search-clause-none : goal.returns-in-Ok-binary_search-clause-none
returns-in-Ok-binary_search-clause-none c = λ f m same.
    let inside = c.self.inside in
    let found = c.binary_search.ensures in
    let from = missing_from inside.job inside.numbers.items inside.tables.items c.self.invariant.0 f (subst (λ (t : TaskValue). IsIn f (missing t)) (sym c.self.view_is) m) in
    let up = subst IsNonDecreasing (sym c.deref.ensures.value) (numbers_ascend inside.job inside.numbers.items inside.tables.items c.self.invariant.0) in
    let is = sym (ap (λ (r : Result ℕ ℕ). is_ok r) c.in-Ok-binary_search.is) ∙ among_found c.deref.result.now c.args.number c.binary_search.result up found.bound found.position in
    true≢false (is ∙ ap (λ (ns : List ℕ). is_among ns c.args.number) c.deref.ensures.value ∙ ap (λ (n : ℕ). is_among inside.numbers.items n) (sym same) ∙ from.1)

pub returns-in-Err-clause-missing : goal.returns-in-Err-clause-missing
returns-in-Err-clause-missing c =
    let inside = c.self.inside in
    let f = c.index-inputs-at.result in
    let held = c.self.invariant.0 in
    let by_number = c.in-Ok.ensures.position (λ (g : FileMeta). g.number) (answers_always _ _ _ (λ g a r h called. search rules)) in
    let same : f.number ≡ c.args.number = ap (λ (g : FileMeta). g.number) c.index-inputs-at.is ∙ ranked (get_or c.inputs-inputs.result.now c.in-Ok.at f).number c.args.number _ (sym (by_number f)) in
    let found = c.binary_search.ensures in
    let up = subst IsNonDecreasing (sym c.deref.ensures.value) (numbers_ascend inside.job inside.numbers.items inside.tables.items held) in
    let is = sym (ap (λ (r : Result ℕ ℕ). is_ok r) c.in-Err.is) ∙ among_found c.deref.result.now c.args.number c.binary_search.result up found.bound found.position in
    let new = ap (λ (n : ℕ). is_among inside.numbers.items n) same ∙ sym (is ∙ ap (λ (ns : List ℕ). is_among ns c.args.number) c.deref.ensures.value) in
    let member = subst (λ (fs : List FileMeta). IsIn f fs) c.inputs-inputs.ensures.all (subst (λ (g : FileMeta). IsIn g c.inputs-inputs.result.now) (sym c.index-inputs-at.is) (IsIn-at c.inputs-inputs.result.now c.in-Ok.at f c.in-Ok.ensures.bound)) in
    (subst (λ (t : TaskValue). IsIn f (missing t)) c.self.view_is (missing_if inside.job inside.numbers.items inside.tables.items held f member new), same)

pub returns-in-Err-clause-place : goal.returns-in-Err-clause-place
returns-in-Err-clause-place c =
    let inside = c.self.inside in
    let held = c.self.invariant.0 in
    let up = subst IsNonDecreasing (sym c.deref.ensures.value) (numbers_ascend inside.job inside.numbers.items inside.tables.items held) in
    let spot = spot_found c.deref.result.now c.args.number c.in-Err.place up c.in-Err.ensures.bound c.in-Err.ensures.position in
    let same = c.deref.ensures.value ∙ sym (numbers_held inside.job inside.numbers.items inside.tables.items held) ∙ ap (λ (t : TaskValue). numbers_of t.received) c.self.view_is in
    subst (λ (ns : List ℕ). IsSpot ns c.args.number c.in-Err.place) same spot

pub returns-in-Err-clause-only : goal.returns-in-Err-clause-only
returns-in-Err-clause-only c = λ g m same_number.
    let inside = c.self.inside in
    let f = c.index-inputs-at.result in
    let held = c.self.invariant.0 in
    let by_number = c.in-Ok.ensures.position (λ (g : FileMeta). g.number) (answers_always _ _ _ (λ g a r h called. search rules)) in
    let same : f.number ≡ c.args.number = ap (λ (g : FileMeta). g.number) c.index-inputs-at.is ∙ ranked (get_or c.inputs-inputs.result.now c.in-Ok.at f).number c.args.number _ (sym (by_number f)) in
    let member = subst (λ (fs : List FileMeta). IsIn f fs) c.inputs-inputs.ensures.all (subst (λ (g : FileMeta). IsIn g c.inputs-inputs.result.now) (sym c.index-inputs-at.is) (IsIn-at c.inputs-inputs.result.now c.in-Ok.at f c.in-Ok.ensures.bound)) in
    let from = missing_from inside.job inside.numbers.items inside.tables.items held g (subst (λ (t : TaskValue). IsIn g (missing t)) (sym c.self.view_is) m) in
    one_number inside.job.inputs (inputs_rise inside.job inside.numbers.items inside.tables.items held) g f from.0 member (same_number ∙ sym same)
