use Rattle.std.proofs.Common.{◌∙◌, ◌++◌, ◌∷◌, ℕ, List, ap, sym, subst, take, drop, is_ok, cond, arith}
use Rattle.lsm_edit.specs.declared.served.Placed.{Placed}
use Rattle.lsm_table.specs.Tables.{Opened}
use Rattle.lsm_work.specs.Held.{AreHeld, BelongsAt, task_of}
use Rattle.lsm_work.specs.Workers.{TaskValue, with_input}
use Rattle.lsm_work.proofs.HeldInputs.{held_more, task_more, place_within, has_room, tables_many}
use Rattle.lsm_work.proofs.task.Task.put.Goals as goal

pub insert-requires : goal.insert-requires
insert-requires c =
    let i = c.self.inside in
    let p : Placed = record { meta = c.requires.0; table = c.args.table } in
    let at = subst (λ (t : TaskValue). BelongsAt t p c.args.place) (sym c.self.view_is) c.requires.2 in
    omega (arith, place_within i.job i.numbers.items i.tables.items c.self.invariant.0 p c.args.place at)

pub unwrap-requires : goal.unwrap-requires
unwrap-requires c =
    let i = c.self.inside in
    let p : Placed = record { meta = c.requires.0; table = c.args.table } in
    let at = subst (λ (t : TaskValue). BelongsAt t p c.args.place) (sym c.self.view_is) c.requires.2 in
    let room = has_room i.job i.numbers.items i.tables.items c.self.invariant.0 p c.args.place at in
    let most = c.self.invariant.1 in
    c.insert.ensures.succeeds (omega (arith, room, most))

pub insert-requires-2 : goal.insert-requires-2
insert-requires-2 c =
    let i = c.self.inside in
    let p : Placed = record { meta = c.requires.0; table = c.args.table } in
    let at = subst (λ (t : TaskValue). BelongsAt t p c.args.place) (sym c.self.view_is) c.requires.2 in
    omega (arith, place_within i.job i.numbers.items i.tables.items c.self.invariant.0 p c.args.place at, tables_many i.job i.numbers.items i.tables.items c.self.invariant.0)

pub unwrap-requires-2 : goal.unwrap-requires-2
unwrap-requires-2 c =
    let i = c.self.inside in
    let p : Placed = record { meta = c.requires.0; table = c.args.table } in
    let at = subst (λ (t : TaskValue). BelongsAt t p c.args.place) (sym c.self.view_is) c.requires.2 in
    let room = has_room i.job i.numbers.items i.tables.items c.self.invariant.0 p c.args.place at in
    let most = c.self.invariant.2 in
    c.insert-2.ensures.succeeds (omega (arith, room, most, tables_many i.job i.numbers.items i.tables.items c.self.invariant.0))

pub invariant_of-self : goal.invariant_of-self
invariant_of-self c =
    let i = c.self.inside in
    let p : Placed = record { meta = c.requires.0; table = c.args.table } in
    let at = subst (λ (t : TaskValue). BelongsAt t p c.args.place) (sym c.self.view_is) c.requires.2 in
    let numbers = c.insert.ensures.items ∙ ap (λ r. cond (is_ok r) (take c.args.place i.numbers.items ++ c.args.number ∷ drop c.args.place i.numbers.items) i.numbers.items) c.unwrap.ensures in
    let tables = c.insert-2.ensures.items ∙ ap (λ r. cond (is_ok r) (take c.args.place i.tables.items ++ c.args.table ∷ drop c.args.place i.tables.items) i.tables.items) c.unwrap-2.ensures in
    let more = subst (λ (n : ℕ). AreHeld i.job (take c.args.place i.numbers.items ++ n ∷ drop c.args.place i.numbers.items) (take c.args.place i.tables.items ++ c.args.table ∷ drop c.args.place i.tables.items)) c.requires.1
    (held_more i.job i.numbers.items i.tables.items c.self.invariant.0 p c.args.place at) in
    let most = c.self.invariant.1 in
    let most_tables = c.self.invariant.2 in
    (subst (λ (ns : List ℕ). AreHeld i.job ns c.insert-2.new.self.items) (sym numbers) (subst (λ (ts : List Opened). AreHeld i.job (take c.args.place i.numbers.items ++ c.args.number ∷ drop c.args.place i.numbers.items) ts) (sym tables) more), omega (arith, most, c.insert.ensures.capacity), omega (arith, most_tables, c.insert-2.ensures.capacity))

pub returns : goal.returns
returns c = λ f same stands.
    let i = c.self.inside in
    let p : Placed = record { meta = f; table = c.args.table } in
    let at = subst (λ (t : TaskValue). BelongsAt t p c.args.place) (sym c.self.view_is) stands in
    let numbers = c.insert.ensures.items ∙ ap (λ r. cond (is_ok r) (take c.args.place i.numbers.items ++ c.args.number ∷ drop c.args.place i.numbers.items) i.numbers.items) c.unwrap.ensures in
    let tables = c.insert-2.ensures.items ∙ ap (λ r. cond (is_ok r) (take c.args.place i.tables.items ++ c.args.table ∷ drop c.args.place i.tables.items) i.tables.items) c.unwrap-2.ensures in
    let named = ap (λ (n : ℕ). take c.args.place i.numbers.items ++ n ∷ drop c.args.place i.numbers.items) (sym same) in
    ap (λ (ns : List ℕ). task_of i.job ns c.insert-2.new.self.items) (numbers ∙ named) ∙ ap (λ (ts : List Opened). task_of i.job (take c.args.place i.numbers.items ++ f.number ∷ drop c.args.place i.numbers.items) ts) tables
    ∙ task_more i.job i.numbers.items i.tables.items c.self.invariant.0 p c.args.place at ∙ ap (λ (t : TaskValue). with_input p t) c.self.view_is
