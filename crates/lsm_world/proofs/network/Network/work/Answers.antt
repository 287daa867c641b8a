-- What a worker did with a message that was sent keeps the history.
use Rattle.std.proofs.Common.{subst, sym}
use Rattle.lsm_world.specs.Inner.Handing.{IsStored}
use Rattle.lsm_world.specs.Nodes.{NetworkValue}
use Rattle.lsm_world.proofs.WorkersInPlace.{work_keeps}
use Rattle.lsm_world.proofs.network.Network.work.Goals as goal

pub returns-in-Ok-clause-keeps : goal.returns-in-Ok-clause-keeps
returns-in-Ok-clause-keeps c =
    let stored = subst (λ (n : NetworkValue). IsStored n.messages c.args.message.now) (sym c.self.view_is) c.requires in
    rw (← c.self.view_is) (work_keeps _ c.args.index c.args.message.now c.in-Ok.change c.in-Ok.sent.items c.send_all.result c.tell.new.workers c.send_all.new.messages stored c.in-Ok.ensures.ok c.send_all.ensures)
