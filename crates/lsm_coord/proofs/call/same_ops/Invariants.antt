use Rattle.std.proofs.Common.{◌≡◌, ℕ, ◌<◌, get_or}
use Rattle.lsm_key.specs.declared.op.Op.{Op}
use Rattle.lsm_coord.proofs.call.same_ops.Given as goal

abbrev pub invariant-loop-i : goal.invariant-loop-i
invariant-loop-i l = (k : ℕ) (d : Op) → k < l.i → get_or l.ops k d ≡ get_or l.others k d
