-- the keys so far are deleted, and this is how many of them had a value
use Rattle.std.proofs.Common.{◌≤◌, take}
use Rattle.lsm_resp.specs.Requests.{words_of}
use Rattle.lsm_serve.specs.Answers.{DeletesKeys}
use Rattle.lsm_serve.proofs.answer.keys.delete_keys.Given as goal

abbrev pub invariant-loop-key : goal.invariant-loop-key
invariant-loop-key g l = record {
  few : l.count ≤ l.key-index;
  so : DeletesKeys l.fn.store (words_of (take l.key-index l.keys)) l.count l.store;
}
