use Rattle.std.proofs.Common.{subst}
use Rattle.lsm_key.specs.Reading.{Gives}
use Rattle.lsm_msg.proofs.MessageLaws.{message_found, message_again}
use Rattle.lsm_msg.proofs.reading.decode.Goals as goal

pub returns-clause-found : goal.returns-clause-found
returns-clause-found c = message_found c.args.bytes c.read_whole.result c.know_bytes.ensures c.read_whole.ensures

pub returns-clause-only : goal.returns-clause-only
returns-clause-only c = λ m is. subst (λ f. Gives (λ b. b) c.read_whole.result f) (message_again c.args.bytes m is) c.read_whole.ensures
