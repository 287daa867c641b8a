-- A message under the number was sent.
use Rattle.std.proofs.Common.{inl, inr, subst}
use Rattle.lsm_world.specs.Inner.Stopping.{StoppedValue, down_store}
use Rattle.lsm_world.specs.Inner.Working.{IsMessageAt}
use Rattle.lsm_world.proofs.DeliveredMessages.{stored_at}
use Rattle.lsm_world.proofs.DownEvents.{delivers_down}
use Rattle.lsm_world.proofs.stopped.Stopped.deliver.Goals as goal

pub hand_over-requires : goal.hand_over-requires
hand_over-requires g c =
    let at = subst (λ (n : StoppedValue). IsMessageAt n.network.messages c.args.number c.in-Ok.message) c.self.view_is c.in-Ok.ensures.ok in
    record { stored = stored_at c.args.self.now.network.messages c.args.number c.in-Ok.message at }

pub returns-in-Ok-clause-follows : goal.returns-in-Ok-clause-follows
returns-in-Ok-clause-follows g c = c.hand_over.ensures.follows c.args.number
