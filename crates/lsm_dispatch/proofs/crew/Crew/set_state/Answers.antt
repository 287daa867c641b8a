use Rattle.lsm_dispatch.proofs.HeldClaims.{left_held}
use Rattle.lsm_dispatch.proofs.crew.Crew.set_state.Goals as goal

pub returns-clause-held : goal.returns-clause-held
returns-clause-held g c = left_held c.args.coord.now c.settle.new.coord c.args.self.now c.replace-before.new.self c.args.index c.replace-before.result c.args.state c.replace-before.ensures.before c.replace-before.ensures.after c.settle.ensures
