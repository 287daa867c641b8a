-- What the coordinator lists.
use Rattle.std.proofs.Common.{IfOk, subst}
use Rattle.lsm_coord.specs.Contract.Serving.{Serves}
use Rattle.lsm_coord.specs.Contract.Shows.{Shows}
use Rattle.lsm_coord.specs.Model.State.{State}
use Rattle.lsm_nodes.specs.Histories.{SharedValue}
use Rattle.lsm_nodes.proofs.shared.Shared.serve.Goals as goal

pub returns-clause-listed : goal.returns-clause-listed
returns-clause-listed g c = subst (λ (s : SharedValue). IfOk c.serve.result (λ answer. (t : State) → Shows s.coord t → Serves t c.args.message.now.body answer)) c.self.view_is c.serve.ensures.listed
