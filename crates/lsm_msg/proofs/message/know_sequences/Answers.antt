use Rattle.std.proofs.Common.{◌<◌, ◌^◌, arith, subst, take}
use Rattle.std.proofs.lemmas.List.{take_all, take_more}
use Rattle.std.proofs.lemmas.List.Elements.{All-push}
use Rattle.lsm_msg.specs.Messages.{AreSequences}
use Rattle.lsm_msg.proofs.message.know_sequences.Goals as goal

pub loop-point-preserved : goal.loop-point-preserved
loop-point-preserved c =
    let below : c.point-item.result < 2 ^ 56 = omega (arith, c.number-number.ensures.value, c.number-number.ensures.bound) in
    rw (take_more c.args.points.now c.loop-point.point-index c.point-item.result c.loop-point-test.true, ← c.point-item.is)
    (All-push (λ p. p < 2 ^ 56) (take c.loop-point.point-index c.args.points.now) c.point-item.result c.loop-point.invariant below)

pub returns : goal.returns
returns c = subst AreSequences (take_all c.loop-point.point-index c.args.points.now (omega (arith, c.loop-point-test.false))) c.loop-point.invariant
