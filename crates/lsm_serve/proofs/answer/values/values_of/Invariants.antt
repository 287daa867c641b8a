-- what is read of the keys that are left completes what is read
use Rattle.std.proofs.Common.{◌≡◌, drop}
use Rattle.lsm_resp.specs.Requests.{words_of}
use Rattle.lsm_serve.proofs.ReadsSoFar.{ReadsFrom}
use Rattle.lsm_serve.proofs.answer.values.values_of.Given as goal

abbrev pub invariant-loop-key : goal.invariant-loop-key
invariant-loop-key g l = record {
  same : l.store ≡ l.fn.store;
  so : ReadsFrom l.fn.store (words_of l.keys) l.values.items (words_of (drop l.key-index l.keys));
}
