-- The question of a follower names a version of the history.
use Rattle.std.proofs.Common.{◌∷◌, [], subst}
use Rattle.lsm_msg.specs.declared.message.Message.{Message}
use Rattle.lsm_world.specs.Asks.Messages.{Sends}
use Rattle.lsm_world.proofs.FollowersInPlace.{ask_keeps}
use Rattle.lsm_world.proofs.network.Network.ask.Goals as goal

pub returns-clause-keeps : goal.returns-clause-keeps
returns-clause-keeps c =
    let sends = subst (λ (m : Message). Sends c.self.inside.messages (m ∷ []) c.send_one.result c.send_one.new.self) c.ask-message.ensures.all c.send_one.ensures in
    rw (← c.self.view_is) (ask_keeps _ c.args.index c.get.result.now c.get.ensures c.send_one.result c.send_one.new.self sends)
