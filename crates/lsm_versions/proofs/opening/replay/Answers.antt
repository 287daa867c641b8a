use Rattle.std.proofs.Common.{◌≡◌, ◌∙◌, ℕ, false, inl, inr, List, Option, sym, subst}
use Rattle.std.proofs.lemmas.Bool.{false≢true}
use Rattle.std.proofs.lemmas.Option.{none-some}
use Rattle.lsm_key.specs.Sets.{IsIn}
use Rattle.lsm_key.proofs.Membership.{IsIn-at}
use denote.Enum.Bare.{sameb}
use Rattle.lsm_edit.specs.contracts.version.ApplyError.{the_type}
use Rattle.lsm_edit.specs.declared.version.ApplyError.{ApplyError}
use Rattle.lsm_edit.specs.declared.edit.Edit.{Edit}
use Rattle.lsm_edit.specs.Edit.{IsSpelledEdit}
use Rattle.lsm_versions.proofs.ReplayedEdits.{applies_next, folds_more}
use Rattle.std.specs.Option.{IfNone, IfSome}
use Rattle.lsm_versions.proofs.opening.replay.Goals as goal

pub returns-in_default-clause-none : goal.returns-in_default-clause-none
returns-in_default-clause-none c folds =
    let texts = c.args.edits.now in
    let among = subst (λ (t : List ℕ). IsIn t texts) (sym c.text-item.is) (IsIn-at texts c.loop-text.text-index c.text-item.result c.loop-text-test.true) in
    let one = folds.spelled c.text-item.result among in
    subst (λ (o : Option Edit). IfNone o ((e : Edit) → IsSpelledEdit c.text-item.result e → ⊥)) c.in_default.is c.in_ok-edit.ensures.none one.0 one.1

pub loop-text-preserved : goal.loop-text-preserved
loop-text-preserved c =
    let one = subst (λ (o : Option Edit). IfSome o (IsSpelledEdit c.text-item.result)) c.in-Some.is c.in_ok-edit.ensures.some in
    let made = c.in-Ok.ensures.ok in
    rw (made.1) (folds_more c.args.edits.now c.loop-text.text-index c.text-item.result c.loop-text-test.true c.text-item.is c.loop-text.version c.in-Some.edit c.loop-text.invariant one made.0)

pub returns-in-Err-2-clause-none : goal.returns-in-Err-2-clause-none
returns-in-Err-2-clause-none c folds =
    let one = subst (λ (o : Option Edit). IfSome o (IsSpelledEdit c.text-item.result)) c.in-Some.is c.in_ok-edit.ensures.some in
    let fits = applies_next c.args.edits.now c.loop-text.text-index c.text-item.result c.loop-text-test.true c.text-item.is c.loop-text.version _ c.in-Some.edit c.loop-text.invariant one folds in
    elim c.in-Err.ensures.refused [ inl fault ↦ none-some c.in-Err.why (sym fits ∙ fault) | inr memory ↦ false≢true (subst (λ (e : ApplyError). false ≡ sameb the_type e ApplyError.OutOfMemory) memory.1 c.if-eq.ensures) ]
