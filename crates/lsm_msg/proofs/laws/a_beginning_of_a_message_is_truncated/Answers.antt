use Rattle.lsm_msg.proofs.MessageLaws.{message_cut}
use Rattle.lsm_msg.proofs.laws.a_beginning_of_a_message_is_truncated.Goals as goal

pub returns : goal.returns
returns c = message_cut
