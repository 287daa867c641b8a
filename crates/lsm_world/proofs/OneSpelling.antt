-- One text spells one message, so a message that was sent is known.
use Rattle.std.proofs.Common.{◌≡◌, ℕ, List, sym, subst, ◌∙◌}
use Rattle.lsm_key.proofs.FieldLaws.{ok_is}
use Rattle.lsm_msg.specs.declared.fault.MsgFault.{MsgFault}
use Rattle.lsm_msg.specs.declared.message.Message.{Message}
use Rattle.lsm_msg.specs.Messages.{IsSpelled}
use Rattle.lsm_msg.proofs.MessageLaws.{message_again}
use Rattle.lsm_world.specs.History.{History, IsKnown, IsNetwork}
use Rattle.lsm_world.specs.Inner.Handing.{IsStored}
use Rattle.lsm_world.specs.Nodes.{NetworkValue}

pub one_spelling : (bytes : List ℕ) (m n : Message) → IsSpelled bytes m → IsSpelled bytes n → m ≡ n
one_spelling bytes m n first second = ok_is {F = MsgFault} m n (sym (message_again bytes m first) ∙ message_again bytes n second)

-- A MESSAGE THAT WAS SENT IS KNOWN.
pub stored_known : (h : History) (n : NetworkValue) (m : Message) → IsNetwork h n → IsStored n.messages m → IsKnown h m.body
stored_known h n m is stored =
    let known = is.sent stored.0 stored.1 in
    subst (λ (x : Message). IsKnown h x.body) (one_spelling stored.0 known.0 m known.1 stored.2) known.2
