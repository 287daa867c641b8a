-- A message under the number was sent.
use Rattle.std.proofs.Common.{inl, inr, subst}
use Rattle.lsm_world.specs.Inner.Working.{IsMessageAt}
use Rattle.lsm_world.specs.Nodes.{NodesValue}
use Rattle.lsm_world.proofs.DeliveredMessages.{delivers_at, stored_at}
use Rattle.lsm_world.proofs.nodes.Nodes.deliver.Goals as goal

pub message-requires : goal.message-requires
message-requires g c = (c.self.invariant.0, c.self.invariant.1.network)

pub hand_over-requires : goal.hand_over-requires
hand_over-requires g c =
    let at = subst (λ (n : NodesValue). IsMessageAt n.network.messages c.args.number c.in-Ok.message) c.self.view_is c.in-Ok.ensures.ok in
    record { stored = stored_at c.args.self.now.network.messages c.args.number c.in-Ok.message at }

pub returns-in-Ok-clause-asks : goal.returns-in-Ok-clause-asks
returns-in-Ok-clause-asks g c =
    let at = subst (λ (n : NodesValue). IsMessageAt n.network.messages c.args.number c.in-Ok.message) c.self.view_is c.in-Ok.ensures.ok in
    elim c.hand_over.ensures.asks [
      | inl lacks ↦ inl lacks
      | inr delivered ↦ inr (delivers_at c.args.self.now c.in-Ok.message c.hand_over.new.self c.args.number c.hand_over.result at delivered)
    ]
