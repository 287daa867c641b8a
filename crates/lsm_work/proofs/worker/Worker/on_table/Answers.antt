use Rattle.std.proofs.Common.{◌≡◌, ◌∙◌, ℕ, Bool, List, Option, Some, None, cond, ap, sym, subst}
use Rattle.lsm_msg.specs.declared.message.Message.{Message}
use Rattle.lsm_work.specs.declared.change.WorkChange.{WorkChange}
use Rattle.lsm_work.specs.Workers.{TaskValue, WorkerValue, WorkOutcome, TakesTable}
use Rattle.lsm_work.specs.Held.{left_after}
use Rattle.lsm_work.proofs.worker.Worker.on_table.Goals as goal
use Rattle.lsm_work.proofs.worker.Worker.on_table.Goals.{then-ends_task+in-Some-1, then-ends_task+in-None-1, else-ends_task}

abbrev worker : ℕ → Option TaskValue → WorkerValue
worker index task = record { index = index; task = task }

abbrev told : WorkChange → List Message → WorkerValue → WorkOutcome
told change sent v = record { change = change; sent = sent; worker = v }

pub returns-clause-ok : goal.returns-clause-ok
returns-clause-ok c =
    let index = c.self.inside.index in
    let t = c.in-Some.task in
    let change = c.in_ok-change.change in
    let sent = c.in_ok-change.sent.items in
    let left = c.receive.new.self in
    let whole = ap (worker index) (sym c.in-Some.is) ∙ c.self.view_is in
    let ends = sym c.ends_task.ensures in
    let new : c.if-ends_task.self ≡ worker index (left_after change left) =
    elim c.if-ends_task.branch [
      | then-ends_task+in-Some-1 w ↦ w.self-is ∙ sym (ap (λ (b : Bool). worker index (cond b None (Some left))) (ends ∙ w.if-ends_task.true))
      | then-ends_task+in-None-1 w ↦ w.self-is ∙ sym (ap (λ (b : Bool). worker index (cond b None (Some left))) (ends ∙ w.if-ends_task.true))
      | else-ends_task w ↦ w.self-is ∙ sym (ap (λ (b : Bool). worker index (cond b None (Some left))) (ends ∙ w.if-ends_task.false))
    ] in
    let made = subst (λ (n : ℕ). TakesTable (worker index (Some t)) n c.args.bytes.now (Some t) (told change sent (worker index (left_after change left)))) c.number.ensures c.in_ok-change.ensures.ok in
    let told_new = subst (λ (v : WorkerValue). TakesTable (worker index (Some t)) c.args.file c.args.bytes.now (Some t) (told change sent v)) (sym new) made in
    subst (λ (w : WorkerValue). TakesTable w c.args.file c.args.bytes.now w.task (told change sent c.if-ends_task.self)) whole told_new
