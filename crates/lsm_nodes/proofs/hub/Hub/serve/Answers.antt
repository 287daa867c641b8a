-- What the coordinator under the lock answers.
use Rattle.std.proofs.Common.{◌≡◌, Result, Ok, Err, IfErr, IfOk}
use Rattle.lsm_coord.specs.Contract.Memory.{IsFit}
use Rattle.lsm_coord.specs.Contract.Serving.{TakesMemory, answer_message}
use Rattle.lsm_coord.specs.Contract.Value.{CoordValue}
use Rattle.lsm_nodes.proofs.hub.Hub.serve.Goals as goal

for_some : {X T E : Type 0} (x : X) (Q : X → Type 0) (P : X → T → Type 0) (r : Result T E) → Q x → IfOk r (P x) → IfOk r (λ y. (z : X) × Q z × P z y)
for_some x Q P (Ok y) fit h = (x, fit, h)
for_some x Q P (Err e) fit h = tt

for_some_err : {X T E : Type 0} (x : X) (Q : X → Type 0) (P : X → E → Type 0) (r : Result T E) → Q x → IfErr r (P x) → IfErr r (λ e. (z : X) × Q z × P z e)
for_some_err x Q P (Ok y) fit h = tt
for_some_err x Q P (Err e) fit h = (x, fit, h)

pub returns-clause-answer : goal.returns-clause-answer
returns-clause-answer g c =
    for_some c.deref.result.now.coord IsFit (λ (coord : CoordValue) answer. answer ≡ answer_message coord c.args.message.now c.args.message.now.body) c.serve.result c.serve.ensures.fit c.serve.ensures.ok

pub returns-clause-err : goal.returns-clause-err
returns-clause-err g c = for_some_err c.deref.result.now.coord IsFit (λ (coord : CoordValue) e. TakesMemory coord c.args.message.now.body) c.serve.result c.serve.ensures.fit c.serve.ensures.err
