use Rattle.std.proofs.Common.{◌≤◌, ◌<◌, ◌+◌, ◌*◌}
use Rattle.lsm_timing.proofs.keys.Shape.value.Given as goal

abbrev pub invariant-loop-word : goal.invariant-loop-word
invariant-loop-word l = record {
  room : l.fn.self.value_len ≤ l.value.spare + 8 * l.word;
  words : 8 * l.words ≤ l.fn.self.value_len;
  rest : l.fn.self.value_len < 8 * l.words + 8;
}
