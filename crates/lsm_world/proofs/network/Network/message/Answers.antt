-- A text that is stored under the number is that of a message that was sent.
use Rattle.std.proofs.Common.{ap, sym, ◌∙◌}
use Rattle.lsm_world.specs.Asks.Messages.{stored_message}
use Rattle.lsm_world.specs.Nodes.{NetworkValue}
use Rattle.lsm_world.proofs.DeliveredMessages.{text_stored}
use Rattle.lsm_world.proofs.network.Network.message.Goals as goal

pub message_of-requires : goal.message_of-requires
message_of-requires c =
    let text = c.in-Some.text.now in
    let there = sym (ap (λ (n : NetworkValue). stored_message n.messages c.args.number) c.self.view_is) ∙ sym c.in-Some.ensures in
    let sent = c.requires.1.sent text (text_stored c.args.self.now.messages c.args.number text there) in
    (sent.0, sent.1)
