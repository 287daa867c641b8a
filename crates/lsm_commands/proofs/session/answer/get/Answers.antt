use Rattle.lsm_commands.proofs.session.answer.get.Goals as goal

pub returns-in-Ok : goal.returns-in-Ok
returns-in-Ok g c = rw (← c.as_slice.ensures) (c.in-Ok.ensures.ok, c.in-Ok.ensures.same)
