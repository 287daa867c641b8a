use Rattle.std.proofs.Common.{◌≤◌, length, subst}
use Rattle.lsm_msg.specs.declared.message.Body.{Body}
use Rattle.lsm_msg.specs.declared.message.Body.TheVariants as body
use Rattle.lsm_msg.specs.declared.message.TheConstants.{MAX_MESSAGE_BYTES}
use Rattle.lsm_msg.specs.Messages.{body_text}
use Rattle.lsm_msg.proofs.MessageSizes.{counted_of}
use Rattle.lsm_msg.proofs.writing.write_body.Goals as goal

pub write_result-requires-clause-few : goal.write_result-requires-clause-few
write_result-requires-clause-few c = counted_of (body.Result c.in-Result.made) (subst (λ (b : Body). length (body_text b) ≤ MAX_MESSAGE_BYTES) c.in-Result.is c.requires.small)

pub write_base-requires : goal.write_base-requires
write_base-requires c = record { few = counted_of (body.Base c.in-Base.version) (subst (λ (b : Body). length (body_text b) ≤ MAX_MESSAGE_BYTES) c.in-Base.is c.requires.small) }
