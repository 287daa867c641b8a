use Rattle.std.proofs.Common.{◌∙◌, List, Option, inl, inr, refl, sym, ap, subst, length, ◌-◌, ◌+◌, take}
use Rattle.std.specs.List.{slice_get}
use Rattle.std.proofs.lemmas.Result.{err_from_is_err_and}
use Rattle.lsm_table.specs.Tables.{Opened}
use Rattle.lsm_coord.specs.Contract.Installing.{comes_next}
use Rattle.lsm_coord.proofs.OpenedOutputs.{AreOpened, none_next, none_opens, opened_more}
use Rattle.lsm_coord.proofs.coord.outputs.open_outputs.Goals as goal

pub returns-then-not-comes_next-clause-bad : goal.returns-then-not-comes_next-clause-bad
returns-then-not-comes_next-clause-bad c =
    let last = c.last.ensures.value ∙ ap (λ (ts : List Opened). slice_get ts (length ts - 1)) c.deref.ensures.value in
    inr (
      refl,
      none_next c.args.block c.args.hull.now c.args.texts.now c.loop-text.tables.items c.loop-text.text-index c.text-item.result c.loop-text-test.true c.text-item.is c.loop-text.invariant
          c.in_ok-table.table c.in_ok-table.ensures.ok.0 c.in_ok-table.ensures.ok.1
          (ap (λ (l : Option Opened). comes_next c.args.hull.now l c.in_ok-table.table) (sym last) ∙ sym c.comes_next.ensures ∙ c.if-not-comes_next.true),
    )

pub loop-text-preserved : goal.loop-text-preserved
loop-text-preserved c =
    let last = c.last.ensures.value ∙ ap (λ (ts : List Opened). slice_get ts (length ts - 1)) c.deref.ensures.value in
    subst (AreOpened c.args.block c.args.hull.now (take (c.loop-text.text-index + 1) c.args.texts.now)) (sym c.in_ok-push.ensures.items)
    (opened_more c.args.block c.args.hull.now c.args.texts.now c.loop-text.tables.items c.loop-text.text-index c.text-item.result c.loop-text-test.true c.text-item.is c.loop-text.invariant
    c.in_ok-table.table c.in_ok-table.ensures.ok.0 c.in_ok-table.ensures.ok.1 c.in_ok-table.ensures.ok.2
    (ap (λ (l : Option Opened). comes_next c.args.hull.now l c.in_ok-table.table) (sym last) ∙ sym c.comes_next.ensures ∙ c.if-not-comes_next.false))

pub returns-in_err-table-clause-bad : goal.returns-in_err-table-clause-bad
returns-in_err-table-clause-bad c =
    let p = err_from_is_err_and c.from_residual-in_err-table.result c.from_residual-in_err-table.ensures.1 in
    rw (p.1, p.2) (elim c.in_err-table.ensures.bad [
      | inl memory ↦ inl memory
      | inr bad ↦ inr (bad.0, none_opens c.args.block c.args.hull.now c.args.texts.now c.loop-text.tables.items c.loop-text.text-index c.text-item.result c.loop-text-test.true c.text-item.is c.loop-text.invariant bad.1)
    ])
