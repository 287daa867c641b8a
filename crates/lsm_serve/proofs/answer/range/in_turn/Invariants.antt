-- what is listed, and what is left to list
use Rattle.std.proofs.Common.{◌≡◌, ◌++◌, drop}
use Rattle.lsm_serve.specs.Answers.{in_turn}
use Rattle.lsm_serve.proofs.answer.range.in_turn.Given as goal

abbrev pub invariant-loop-pair : goal.invariant-loop-pair
invariant-loop-pair l = l.values.items ++ in_turn (drop l.pair-index l.pairs) ≡ in_turn l.pairs
