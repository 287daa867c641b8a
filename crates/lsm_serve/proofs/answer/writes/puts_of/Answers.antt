use Rattle.std.proofs.Common.{arith}
use Rattle.lsm_serve.proofs.PutsSoFar.{puts_done}
use Rattle.lsm_serve.proofs.answer.writes.puts_of.Goals as goal

pub returns : goal.returns
returns c = puts_done c.args.pairs.now c.loop-i.i c.loop-i.ops.items (omega (arith, c.loop-i-test.false)) c.loop-i.invariant
