-- The copy is the same event.
use Rattle.lsm_world.proofs.world.World.step_of.Goals as goal

pub returns-in-Ok-clause-step : goal.returns-in-Ok-clause-step
returns-in-Ok-clause-step g c = rw (← c.in-Ok.ensures) c.step.ensures.step
