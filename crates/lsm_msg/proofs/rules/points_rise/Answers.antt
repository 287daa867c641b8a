use Rattle.std.proofs.Common.{ℕ, ◌<◌, refl, arith}
use Rattle.lsm_edit.proofs.AdjacentPairs.{from_adjacent}
use Rattle.lsm_msg.proofs.rules.points_rise.Goals as goal

pub returns : goal.returns
returns c = (λ _. from_adjacent (λ (m n : ℕ). m < n) (λ x y z h k. omega arith) c.args.points.now (λ k d within. c.loop-i.invariant k d (omega arith)), λ _. refl)
