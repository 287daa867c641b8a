use Rattle.std.proofs.Common.{◌++◌, List, length, sym, ap, ◌∙◌, arith}
use Rattle.std.proofs.lemmas.List.{nil_from_length}
use Rattle.lsm_key.specs.declared.entry.Entry.{Entry}
use Rattle.lsm_key.specs.Places.{all_entries}
use Rattle.lsm_edit.specs.declared.served.Placed.{Placed}
use Rattle.lsm_edit.specs.Served.{tables_of}
use Rattle.lsm_edit.proofs.served.level_cursor.LevelCursorIterator.next.Goals as goal

pub loop-found-init : goal.loop-found-init
loop-found-init c = c.self.view_is

pub returns-in-Some-clause-steps : goal.returns-in-Some-clause-steps
returns-in-Some-clause-steps c =
    let later = all_entries (tables_of c.loop-found.self-inside.later.now) in
    sym c.loop-found.invariant ∙ ap (λ (es : List Entry). es ++ later) c.in-Some.ensures.steps

pub returns-in-Some-clause-goes : goal.returns-in-Some-clause-goes
returns-in-Some-clause-goes c =
    let fewer = ap length (returns-in-Some-clause-steps c) in
    record { on = λ f. (tt, tt, omega (arith, fewer)); keeps = tt; rests = λ f. tt }

pub returns-in-None-clause-steps : goal.returns-in-None-clause-steps
returns-in-None-clause-steps c =
    let none = c.in_default.ensures.steps.0 in
    let later = ap (λ (ps : List Placed). all_entries (tables_of ps)) (nil_from_length c.loop-found.self-inside.later.now c.in-None.ensures.cases) in
    let left = ap (λ (es : List Entry). es ++ all_entries (tables_of c.loop-found.self-inside.later.now)) none ∙ later in
    (sym c.loop-found.invariant ∙ left, ap (λ (es : List Entry). es ++ all_entries (tables_of c.loop-found.self-inside.later.now)) c.in_default.ensures.steps.1 ∙ c.loop-found.invariant)

pub loop-found-smaller : goal.loop-found-smaller
loop-found-smaller c = omega (arith, c.in-Some-split_first.ensures.cases.1)

pub loop-found-preserved : goal.loop-found-preserved
loop-found-preserved c =
    let rest = all_entries (tables_of c.in-Some-split_first.parts.1.now) in
    let none = c.in_default.ensures.steps.0 in
    let parts = ap (λ (ps : List Placed). all_entries (tables_of ps)) c.in-Some-split_first.ensures.cases.0 in
    ap (λ (es : List Entry). es ++ rest) c.cursor-self-inside.ensures.left ∙ sym parts ∙ ap (λ (es : List Entry). es ++ all_entries (tables_of c.loop-found.self-inside.later.now)) (sym none) ∙ c.loop-found.invariant
