use Rattle.std.proofs.Common.{refl}
use Rattle.lsm_commands.proofs.session.answer.scan.Goals as goal

pub returns-in-Ok : goal.returns-in-Ok
returns-in-Ok g c = rw (← c.deref.ensures, ← c.deref-2.ensures, c.from_vec.ensures) (c.in-Ok.ensures.ok, refl)
