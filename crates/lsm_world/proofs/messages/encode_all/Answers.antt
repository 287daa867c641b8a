use Rattle.std.proofs.lemmas.List.{take_more}
use Rattle.lsm_msg.specs.Messages.{IsMessage}
use Rattle.lsm_world.proofs.SentMessages.{encoded, one_more_spelled}
use Rattle.lsm_world.proofs.messages.encode_all.Goals as goal

pub loop-message-preserved : goal.loop-message-preserved
loop-message-preserved c =
    let sound : IsMessage c.message-item.result = rw c.message-item.is (c.requires c.loop-message.message-index c.message-item.result c.loop-message-test.true) in
    rw (take_more c.args.messages.now c.loop-message.message-index c.message-item.result c.loop-message-test.true, ← c.message-item.is, c.in_ok-push-in-Ok.ensures.items)
    (one_more_spelled _ _ _ _ c.loop-message.invariant (encoded c.message-item.result c.in-Ok.text sound c.in-Ok.ensures.exact))
