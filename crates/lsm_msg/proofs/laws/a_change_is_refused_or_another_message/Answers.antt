use Rattle.lsm_msg.proofs.MessageLaws.{other_message}
use Rattle.lsm_msg.proofs.laws.a_change_is_refused_or_another_message.Goals as goal

pub returns : goal.returns
returns c = other_message
