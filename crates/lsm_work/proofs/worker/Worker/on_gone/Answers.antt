use Rattle.std.proofs.Common.{◌≡◌, ◌∙◌, ℕ, Bool, List, Option, Some, None, cond, map, refl, ap, sym, subst}
use Rattle.lsm_key.specs.Sets.{is_among}
use Rattle.lsm_msg.specs.declared.message.Message.{Message}
use Rattle.lsm_work.specs.declared.change.WorkChange.TheVariants.{Dropped}
use Rattle.lsm_work.specs.Workers.{TaskValue, WorkerValue, WorkOutcome, drops, ignores, missing, after_gone}
use Rattle.lsm_work.proofs.worker.Worker.on_gone.Goals as goal
use Rattle.lsm_work.proofs.worker.Worker.on_gone.Goals.{in_default-via-in-Some+else-lacks, in_default-via-in_default}

abbrev worker : ℕ → Option TaskValue → WorkerValue
worker index task = record { index = index; task = task }

abbrev dropped : ℕ → List Message → WorkOutcome
dropped index sent = record { change = Dropped; sent = sent; worker = worker index None }

pub returns-in-Some-clause-ok : goal.returns-in-Some-clause-ok
returns-in-Some-clause-ok c =
    let index = c.self.inside.index in
    let t = c.in-Some.task in
    let whole = ap (worker index) (sym c.in-Some.is) ∙ c.self.view_is in
    let is = ap (λ (n : ℕ). is_among (map (λ f. f.number) (missing t)) n) (sym c.number.ensures) ∙ sym c.lacks.ensures ∙ c.if-lacks.true in
    subst (λ (w : WorkerValue). dropped index c.new.result.items ≡ after_gone w c.args.file w.task) whole
    (ap (dropped index) c.new.ensures.items ∙ sym (ap (λ (b : Bool). cond b (drops (worker index (Some t))) (ignores (worker index (Some t)))) is))

pub returns-in_default-clause-ok : goal.returns-in_default-clause-ok
returns-in_default-clause-ok c =
    let index = c.self.inside.index in
    c.ignored.ensures
    ∙ elim c.in_default.branch [
      | in_default-via-in-Some+else-lacks w ↦
          let t = w.in-Some.task in
          let is = ap (λ (n : ℕ). is_among (map (λ f. f.number) (missing t)) n) (sym w.number.ensures) ∙ sym w.lacks.ensures ∙ w.if-lacks.false in
          subst (λ (v : WorkerValue). ignores v ≡ after_gone v c.args.file v.task) (ap (worker index) (sym w.in-Some.is) ∙ c.self.view_is)
          (sym (ap (λ (b : Bool). cond b (drops (worker index (Some t))) (ignores (worker index (Some t)))) is))
      | in_default-via-in_default w ↦ subst (λ (v : WorkerValue). ignores v ≡ after_gone v c.args.file v.task) (ap (worker index) (sym w.in_default.is) ∙ c.self.view_is) refl
    ]
