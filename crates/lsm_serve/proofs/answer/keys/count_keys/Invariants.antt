-- what is counted of the keys that are left completes the count
use Rattle.std.proofs.Common.{◌≡◌, ◌≤◌, drop}
use Rattle.lsm_resp.specs.Requests.{words_of}
use Rattle.lsm_serve.proofs.KeyCounts.{CountsFrom}
use Rattle.lsm_serve.proofs.answer.keys.count_keys.Given as goal

abbrev pub invariant-loop-key : goal.invariant-loop-key
invariant-loop-key g l = record {
  same : l.store ≡ l.fn.store;
  few : l.count ≤ l.key-index;
  so : CountsFrom l.fn.store (words_of l.keys) l.count (words_of (drop l.key-index l.keys));
}
