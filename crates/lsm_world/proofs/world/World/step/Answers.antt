use Rattle.lsm_world.specs.Inner.Storing.{store_in}
use Rattle.lsm_world.proofs.RunningSchedules.{reached_more, untaken_follows}
use Rattle.lsm_world.proofs.world.World.step.Goals as goal

pub invariant_of-self-2 : goal.invariant_of-self-2
invariant_of-self-2 g c = (c.answer-reply.ensures.some, rw (c.push_reserved.ensures.items, c.in-Ok.ensures.items) (reached_more (store_in c.self.inside.store) (store_in c.answer-reply.new.place) _ c.args.event c.answer-reply.result c.self.invariant.1 c.answer-reply.ensures.follows))

pub returns-in-Err-clause-step : goal.returns-in-Err-clause-step
returns-in-Err-clause-step g c = rw (← c.self.view_is) (untaken_follows (store_in c.self.inside.store) c.args.event)
