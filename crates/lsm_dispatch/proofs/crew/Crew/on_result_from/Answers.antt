use Rattle.lsm_dispatch.proofs.TakenResults.{acts_on_result}
use Rattle.lsm_dispatch.proofs.crew.Crew.on_result_from.Goals as goal

pub returns-in-Worker-clause-acts : goal.returns-in-Worker-clause-acts
returns-in-Worker-clause-acts g c = rw (c.in-Worker.is) (acts_on_result c.args.self.now c.on_result.new.self c.args.coord.now c.on_result.new.coord c.in-Worker.index c.args.made.now c.on_result.result c.on_result.ensures.taken c.on_result.ensures.late)
