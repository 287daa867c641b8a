use Rattle.std.proofs.Common.{◌∙◌, ◌+◌, ◌++◌, ◌∷◌, List, ap, sym, subst, take, drop, is_ok, cond, IfOk, IfErr, arith}
use Rattle.std.specs.Prelude.{vec_len, if◌then◌else◌}
use Rattle.lsm_edit.specs.declared.served.Placed.{Placed}
use Rattle.lsm_table.specs.Tables.{Opened}
use Rattle.lsm_merge.specs.Inputs.{CanMerge, IsRefused}
use Rattle.lsm_merge.specs.Outputs.{IsMerge}
use Rattle.lsm_work.specs.Held.{AreHeld, BelongsAt, task_of}
use Rattle.lsm_work.specs.Workers.{TaskValue, received_tables, with_input}
use Rattle.lsm_work.proofs.HeldInputs.{tables_more, place_within, has_room, tables_many, remove_insert}
use Rattle.lsm_work.proofs.task.Task.merged_with.Goals as goal

pub insert-requires : goal.insert-requires
insert-requires c =
    let i = c.self.inside in
    let p : Placed = record { meta = c.requires.0; table = c.args.table } in
    let at = subst (λ (t : TaskValue). BelongsAt t p c.args.place) (sym c.self.view_is) c.requires.1 in
    omega (arith, place_within i.job i.numbers.items i.tables.items c.self.invariant.0 p c.args.place at, tables_many i.job i.numbers.items i.tables.items c.self.invariant.0)

pub unwrap-requires : goal.unwrap-requires
unwrap-requires c =
    let i = c.self.inside in
    let p : Placed = record { meta = c.requires.0; table = c.args.table } in
    let at = subst (λ (t : TaskValue). BelongsAt t p c.args.place) (sym c.self.view_is) c.requires.1 in
    let room = has_room i.job i.numbers.items i.tables.items c.self.invariant.0 p c.args.place at in
    let most = c.self.invariant.2 in
    c.insert.ensures.succeeds (omega (arith, room, most, tables_many i.job i.numbers.items i.tables.items c.self.invariant.0))

pub remove-requires : goal.remove-requires
remove-requires c =
    let i = c.self.inside in
    let p : Placed = record { meta = c.requires.0; table = c.args.table } in
    let at = subst (λ (t : TaskValue). BelongsAt t p c.args.place) (sym c.self.view_is) c.requires.1 in
    let within = place_within i.job i.numbers.items i.tables.items c.self.invariant.0 p c.args.place at in
    let long = c.insert.ensures.len ∙ ap (λ r. if is_ok r then vec_len i.tables + 1 else vec_len i.tables) c.unwrap.ensures in
    omega (arith, within, long, tables_many i.job i.numbers.items i.tables.items c.self.invariant.0)

pub invariant_of-self : goal.invariant_of-self
invariant_of-self c =
    let i = c.self.inside in
    let p : Placed = record { meta = c.requires.0; table = c.args.table } in
    let at = subst (λ (t : TaskValue). BelongsAt t p c.args.place) (sym c.self.view_is) c.requires.1 in
    let within = place_within i.job i.numbers.items i.tables.items c.self.invariant.0 p c.args.place at in
    let tables = c.insert.ensures.items ∙ ap (λ r. cond (is_ok r) (take c.args.place i.tables.items ++ c.args.table ∷ drop c.args.place i.tables.items) i.tables.items) c.unwrap.ensures in
    let same = c.remove.ensures.by_index.2 ∙ ap (λ (ts : List Opened). take c.args.place ts ++ drop (c.args.place + 1) ts) tables ∙ remove_insert i.tables.items c.args.table c.args.place (omega (arith, within, tables_many i.job i.numbers.items i.tables.items c.self.invariant.0)) in
    let most = c.self.invariant.2 in
    (subst (λ (ts : List Opened). AreHeld i.job i.numbers.items ts) (sym same) c.self.invariant.0, c.self.invariant.1, omega (arith, most, c.insert.ensures.capacity, c.remove.ensures.capacity))

pub returns-clause-ok : goal.returns-clause-ok
returns-clause-ok c = λ f stands.
    let i = c.self.inside in
    let p : Placed = record { meta = f; table = c.args.table } in
    let at = subst (λ (t : TaskValue). BelongsAt t p c.args.place) (sym c.self.view_is) stands in
    let tables = c.as_slice.ensures.value ∙ c.insert.ensures.items ∙ ap (λ r. cond (is_ok r) (take c.args.place i.tables.items ++ c.args.table ∷ drop c.args.place i.tables.items) i.tables.items) c.unwrap.ensures in
    let all = tables ∙ sym (tables_more i.job i.numbers.items i.tables.items c.self.invariant.0 p c.args.place at) in
    subst (λ (t : TaskValue). IfOk c.merge-merged.result (λ outputs. CanMerge (received_tables (with_input p t)) t.job × IsMerge (received_tables (with_input p t)) t.job outputs.items)) c.self.view_is
    (subst (λ (ts : List Opened). IfOk c.merge-merged.result (λ outputs. CanMerge ts i.job × IsMerge ts i.job outputs.items)) all c.merge-merged.ensures.ok)

pub returns-clause-refused : goal.returns-clause-refused
returns-clause-refused c = λ f stands.
    let i = c.self.inside in
    let p : Placed = record { meta = f; table = c.args.table } in
    let at = subst (λ (t : TaskValue). BelongsAt t p c.args.place) (sym c.self.view_is) stands in
    let tables = c.as_slice.ensures.value ∙ c.insert.ensures.items ∙ ap (λ r. cond (is_ok r) (take c.args.place i.tables.items ++ c.args.table ∷ drop c.args.place i.tables.items) i.tables.items) c.unwrap.ensures in
    let all = tables ∙ sym (tables_more i.job i.numbers.items i.tables.items c.self.invariant.0 p c.args.place at) in
    subst (λ (t : TaskValue). IfErr c.merge-merged.result (IsRefused (received_tables (with_input p t)) t.job)) c.self.view_is
    (subst (λ (ts : List Opened). IfErr c.merge-merged.result (IsRefused ts i.job)) all c.merge-merged.ensures.refused)

pub returns-clause-unchanged : goal.returns-clause-unchanged
returns-clause-unchanged c =
    let i = c.self.inside in
    let p : Placed = record { meta = c.requires.0; table = c.args.table } in
    let at = subst (λ (t : TaskValue). BelongsAt t p c.args.place) (sym c.self.view_is) c.requires.1 in
    let within = place_within i.job i.numbers.items i.tables.items c.self.invariant.0 p c.args.place at in
    let tables = c.insert.ensures.items ∙ ap (λ r. cond (is_ok r) (take c.args.place i.tables.items ++ c.args.table ∷ drop c.args.place i.tables.items) i.tables.items) c.unwrap.ensures in
    let same = c.remove.ensures.by_index.2 ∙ ap (λ (ts : List Opened). take c.args.place ts ++ drop (c.args.place + 1) ts) tables ∙ remove_insert i.tables.items c.args.table c.args.place (omega (arith, within, tables_many i.job i.numbers.items i.tables.items c.self.invariant.0)) in
    ap (λ (ts : List Opened). task_of i.job i.numbers.items ts) same ∙ c.self.view_is
