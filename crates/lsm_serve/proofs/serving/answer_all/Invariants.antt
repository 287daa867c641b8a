-- no more is answered than has come, few replies are kept, what is answered is served, whatever comes is run, and what was written is counted
use Rattle.std.proofs.Common.{◌≡◌, ◌<◌, ◌≤◌, ◌-◌, ◌++◌, ℕ, List, Option, drop, length}
use Rattle.lsm_coord.specs.Contract.Value.{CoordValue}
use Rattle.lsm_serve.specs.declared.serving.TheConstants.{KEPT_BYTES}
use Rattle.lsm_serve.specs.ServingSteps.{RanSoFar, ServedSoFar}
use Rattle.lsm_serve.proofs.serving.answer_all.Given as goal

abbrev pub invariant-loop-at : goal.invariant-loop-at
invariant-loop-at g l = record {
  within : l.at ≤ length l.input;
  few : length l.out.items < KEPT_BYTES;
  so : (old : CoordValue) (requests : List (List (List ℕ))) (held : Option (List ℕ)) (later : List ℕ)
      → ServedSoFar old requests held l.fn.store (l.input ++ later) l.fn.out.items (g.W.Sink.contents l.fn.writer)
      → ServedSoFar old requests held l.store (drop l.at l.input ++ later) l.out.items (g.W.Sink.contents l.writer);
  ran : (old : CoordValue) (held : Option (List ℕ)) → RanSoFar old held l.fn.store l.fn.out.items (g.W.Sink.contents l.fn.writer) → RanSoFar old held l.store l.out.items (g.W.Sink.contents l.writer);
  writes : g.W.Sink.writes l.fn.writer ≤ g.W.Sink.writes l.writer;
  faults : g.W.Sink.faults l.writer ≡ g.W.Sink.faults l.fn.writer;
}

abbrev pub decreases-loop-at : goal.decreases-loop-at
decreases-loop-at g l = length l.input - l.at
