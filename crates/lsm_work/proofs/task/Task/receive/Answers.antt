use Rattle.std.proofs.Common.{◌≡◌, ◌∙◌, ◌+◌, ◌≤◌, ◌++◌, ◌∷◌, ℕ, List, [], All, cond, is_ok, ap, sym, subst, inl, inr, length, Option, None, Some, IfNone, arith}
use Rattle.lsm_table.specs.Tables.{Opened}
use Rattle.lsm_edit.specs.declared.file.FileMeta.{FileMeta}
use Rattle.lsm_edit.specs.declared.served.Placed.{Placed}
use Rattle.lsm_edit.specs.Served.{IsAsRecorded}
use Rattle.lsm_msg.specs.declared.message.Body.TheVariants as body
use Rattle.lsm_msg.specs.declared.message.Message.{Message}
use Rattle.lsm_msg.specs.Messages.{IsMessage, to_coordinator}
use Rattle.lsm_merge.specs.Inputs.{IsRefused}
use Rattle.lsm_work.specs.declared.change.WorkChange.{WorkChange}
use Rattle.lsm_work.specs.declared.change.WorkChange.TheVariants.{Collecting, Merged, Dropped, Ignored}
use Rattle.lsm_msg.specs.declared.node.Node.TheVariants.{Worker}
use Rattle.lsm_work.specs.Workers.{WorkOutcome, TaskValue, WorkerValue, missing, received_tables, with_input}
use Rattle.lsm_work.proofs.LastInput.{found, some_left, none_left, all_come, all_recorded}
use Rattle.lsm_merge.proofs.ResultTables.{tables_may_be_sent}
use Rattle.lsm_work.proofs.Steps.{All-one, proceeds_more, proceeds_last}
use Rattle.lsm_work.proofs.task.Task.receive.Goals as goal

-- what comes of a message, by what is sent
abbrev told : WorkChange → ℕ → Option TaskValue → List Message → WorkOutcome
told change index task sent = record { change = change; sent = sent; worker = record { index = index; task = task } }

abbrev busy : ℕ → TaskValue → WorkerValue
busy index t = record { index = index; task = Some t }

pub returns-in_default-clause-ok : goal.returns-in_default-clause-ok
returns-in_default-clause-ok c = inr (λ p wanted. c.in_default.ensures.none p.meta wanted.file wanted.number, ap (told Ignored c.args.index (Some c.args.self.now)) c.new.ensures.items)

pub returns-in_default-2-clause-ok : goal.returns-in_default-2-clause-ok
returns-in_default-2-clause-ok c =
    inr (
      λ p wanted.
          let file = c.in-Some.ensures.only p.meta wanted.file wanted.number in
          let none = subst (λ (o : Option Opened). IfNone o ((t : Opened) → t.bytes ≡ c.args.bytes.now → IsAsRecorded c.in-Some.file.now t → ⊥)) c.in_default-2.is c.in_ok-table.ensures.none in
          none p.table wanted.bytes (subst (λ (f : FileMeta). IsAsRecorded f p.table) file wanted.recorded),
      ap (told Ignored c.args.index (Some c.args.self.now)) c.new-in_default-2.ensures.items,
    )

pub returns-then-len-inputs-clause-ok : goal.returns-then-len-inputs-clause-ok
returns-then-len-inputs-clause-ok c =
    let i = c.self.inside in
    let old = c.args.self.now in
    let p : Placed = record { meta = c.in-Some.file.now; table = c.in-Some-2.table } in
    let of = found c.args.self.now c.args.number c.in-Some.place c.args.bytes.now c.in-Some.file.now c.in_ok-table.field-0 c.in-Some-2.table c.in-Some.ensures.missing c.in-Some.ensures.place c.in_ok-table.ensures.some c.in-Some-2.is in
    let inputs = ap (λ (fs : List FileMeta). length fs) c.inputs.ensures.all in
    inl (
      p,
      of.awaited,
      proceeds_more (busy c.args.index old) (with_input p old) (missing (with_input p old)) _ (some_left i.job i.numbers.items i.tables.items c.self.invariant.0 old c.self.view_is p c.in-Some.place of.stands (omega (arith, inputs, c.len.ensures, c.if-len-inputs.true))) (
          ap (λ (n : ℕ). told (Collecting n) c.args.index (Some c.put.new.self) c.new-then-len-inputs.result.items) c.missing.ensures
          ∙ ap (told (Collecting (length (missing c.put.new.self))) c.args.index (Some c.put.new.self)) c.new-then-len-inputs.ensures.items
          ∙ ap (λ (t : TaskValue). told (Collecting (length (missing t))) c.args.index (Some t) []) (c.put.ensures c.in-Some.file.now of.awaited.number of.stands)
          ),
    )

pub unreachable-requires : goal.unreachable-requires
unreachable-requires c =
    let i = c.self.inside in
    let old = c.args.self.now in
    let p : Placed = record { meta = c.in-Some.file.now; table = c.in-Some-2.table } in
    let of = found c.args.self.now c.args.number c.in-Some.place c.args.bytes.now c.in-Some.file.now c.in_ok-table.field-0 c.in-Some-2.table c.in-Some.ensures.missing c.in-Some.ensures.place c.in_ok-table.ensures.some c.in-Some-2.is in
    let inputs = ap (λ (fs : List FileMeta). length fs) c.inputs.ensures.all in
    let last : length i.job.inputs ≤ length i.numbers.items + 1 = omega (arith, inputs, c.len.ensures, c.if-len-inputs.false) in
    subst (IsRefused (received_tables (with_input p old)) old.job) c.in-Err-WrongInputs.field-0-is (c.in-Err-WrongInputs.ensures.refused c.in-Some.file.now of.stands) (all_recorded i.job i.numbers.items i.tables.items c.self.invariant.0 old c.self.view_is p c.in-Some.place of.stands last)

pub returns-in-Ok-clause-ok : goal.returns-in-Ok-clause-ok
returns-in-Ok-clause-ok c =
    let i = c.self.inside in
    let old = c.args.self.now in
    let p : Placed = record { meta = c.in-Some.file.now; table = c.in-Some-2.table } in
    let of = found c.args.self.now c.args.number c.in-Some.place c.args.bytes.now c.in-Some.file.now c.in_ok-table.field-0 c.in-Some-2.table c.in-Some.ensures.missing c.in-Some.ensures.place c.in_ok-table.ensures.some c.in-Some-2.is in
    let inputs = ap (λ (fs : List FileMeta). length fs) c.inputs.ensures.all in
    let last : length i.job.inputs ≤ length i.numbers.items + 1 = omega (arith, inputs, c.len.ensures, c.if-len-inputs.false) in
    let made = c.in-Ok.ensures.ok c.in-Some.file.now of.stands in
    let message = c.result_message.result in
    let one : c.push.new.self.items ≡ message ∷ [] = c.push.ensures.items ∙ ap (λ r. cond (is_ok r) (c.in_ok-sent.sent.items ++ message ∷ []) c.in_ok-sent.sent.items) c.unwrap.ensures ∙ ap (λ (ms : List Message). ms ++ message ∷ []) c.in_ok-sent.ensures.items in
    let said = c.result_message.ensures.all ∙ ap (λ (t : TaskValue). to_coordinator (Worker c.args.index) (body.Result (record { job = t.job.id; tables = c.in-Ok.outputs.items }))) c.in-Ok.ensures.unchanged in
    inl (
      p,
      of.awaited,
      proceeds_last (busy c.args.index old) (with_input p old) (missing (with_input p old)) _ (none_left i.job i.numbers.items i.tables.items c.self.invariant.0 old c.self.view_is p c.in-Some.place of.stands last) (all_come i.job i.numbers.items i.tables.items c.self.invariant.0 old c.self.view_is p c.in-Some.place of.stands last)
          (inl (c.in-Ok.outputs.items, made.0, made.1, ap (told Merged c.args.index None) (one ∙ ap (λ (m : Message). m ∷ []) said))),
    )

pub returns-in-Ok-clause-sound : goal.returns-in-Ok-clause-sound
returns-in-Ok-clause-sound c =
    let of = found c.args.self.now c.args.number c.in-Some.place c.args.bytes.now c.in-Some.file.now c.in_ok-table.field-0 c.in-Some-2.table c.in-Some.ensures.missing c.in-Some.ensures.place c.in_ok-table.ensures.some c.in-Some-2.is in
    let made = c.in-Ok.ensures.ok c.in-Some.file.now of.stands in
    let may = c.result_message.ensures.sound (tables_may_be_sent _ c.in-Ok.outputs.items made.1.entries made.1.spelled) in
    let message = c.result_message.result in
    let one : c.push.new.self.items ≡ message ∷ [] = c.push.ensures.items ∙ ap (λ r. cond (is_ok r) (c.in_ok-sent.sent.items ++ message ∷ []) c.in_ok-sent.sent.items) c.unwrap.ensures ∙ ap (λ (ms : List Message). ms ++ message ∷ []) c.in_ok-sent.ensures.items in
    subst (λ (ms : List Message). All IsMessage ms) (sym one) (All-one IsMessage message may)

pub returns-in-Err-SameEntry-clause-ok : goal.returns-in-Err-SameEntry-clause-ok
returns-in-Err-SameEntry-clause-ok c =
    let i = c.self.inside in
    let old = c.args.self.now in
    let p : Placed = record { meta = c.in-Some.file.now; table = c.in-Some-2.table } in
    let of = found c.args.self.now c.args.number c.in-Some.place c.args.bytes.now c.in-Some.file.now c.in_ok-table.field-0 c.in-Some-2.table c.in-Some.ensures.missing c.in-Some.ensures.place c.in_ok-table.ensures.some c.in-Some-2.is in
    let inputs = ap (λ (fs : List FileMeta). length fs) c.inputs.ensures.all in
    let last : length i.job.inputs ≤ length i.numbers.items + 1 = omega (arith, inputs, c.len.ensures, c.if-len-inputs.false) in
    let refused = subst (IsRefused (received_tables (with_input p old)) old.job) c.in-Err-SameEntry.field-0-is (c.in-Err-SameEntry.ensures.refused c.in-Some.file.now of.stands) in
    inl (
      p,
      of.awaited,
      proceeds_last (busy c.args.index old) (with_input p old) (missing (with_input p old)) _ (none_left i.job i.numbers.items i.tables.items c.self.invariant.0 old c.self.view_is p c.in-Some.place of.stands last) (all_come i.job i.numbers.items i.tables.items c.self.invariant.0 old c.self.view_is p c.in-Some.place of.stands last)
          (inr (refused.1, ap (told Dropped c.args.index None) c.in_ok-sent.ensures.items)),
    )
