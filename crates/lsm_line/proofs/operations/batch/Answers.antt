use Rattle.std.proofs.Common.{◌≡◌, ◌∙◌, ◌∷◌, [], List, ℕ, ap, sym, rules}
use Rattle.lsm_key.specs.Reading.{Fails}
use Rattle.lsm_line.specs.Text.{words}
use Rattle.lsm_line.specs.Commands.{operations}
use Rattle.lsm_line.proofs.BatchSteps.{after, after_none, one_operation, batch_fails, batch_ends}
use Rattle.lsm_line.proofs.operations.batch.Goals as goal

pub loop-name-init : goal.loop-name-init
loop-name-init c = rw c.new-ops.ensures.items (sym (after_none (operations (words c.args.args.rest.now))))

pub loop-name-preserved : goal.loop-name-preserved
loop-name-preserved c =
    let done = c.loop-name.ops.items in
    let next : words c.loop-name.args.rest.now ≡ c.in-Some.name.now ∷ words c.next.new.self.rest.now = c.in-Some.ensures.steps in
    let all = operations (c.in-Some.name.now ∷ words c.next.new.self.rest.now) in
    let left = operations (words c.operation.new.args.rest.now) in
    rw c.in_ok-push.ensures.items (c.loop-name.invariant ∙ ap (λ (ws : List (List ℕ)). after done (operations ws)) next ∙ one_operation done c.in_ok-op.op all left c.in_ok-op.ensures.first)

pub returns-in_err-op : goal.returns-in_err-op
returns-in_err-op c =
    let next : words c.loop-name.args.rest.now ≡ c.in-Some.name.now ∷ words c.next.new.self.rest.now = c.in-Some.ensures.steps in
    let fails : Fails c.in_err-op.field-0.0 (operations (words c.loop-name.args.rest.now)) = rw next c.in_err-op.ensures.first in
    let batch_is = batch_fails (words c.args.args.rest.now) (words c.loop-name.args.rest.now) c.loop-name.ops.items c.in_err-op.field-0.0 c.loop-name.invariant fails in
    search rules

pub returns : goal.returns
returns c =
    let none : words c.loop-name.args.rest.now ≡ [] = c.in_default.ensures.steps.0 in
    rw c.from_vec.ensures (batch_ends (words c.args.args.rest.now) (words c.loop-name.args.rest.now) c.loop-name.ops.items c.loop-name.invariant none)
