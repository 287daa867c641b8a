use Rattle.std.proofs.Common.{refl, arith}
use Rattle.std.proofs.lemmas.List.{same_lists}
use Rattle.lsm_coord.proofs.call.same_ops.Goals as goal

pub returns : goal.returns
returns c = (
  λ _. same_lists c.args.ops.now c.args.others.now (omega arith) (λ k d within. c.loop-i.invariant k d (omega arith)),
  λ _. refl,
)
