-- what is made, and what is left to make
use Rattle.std.proofs.Common.{◌≡◌, ◌++◌, ◌*◌, drop}
use Rattle.lsm_resp.specs.Requests.{words_of}
use Rattle.lsm_serve.specs.Answers.{puts}
use Rattle.lsm_serve.proofs.answer.writes.puts_of.Given as goal

abbrev pub invariant-loop-i : goal.invariant-loop-i
invariant-loop-i l = l.ops.items ++ puts (words_of (drop (2 * l.i) l.pairs)) ≡ puts (words_of l.pairs)
