use Rattle.std.proofs.Common.{ℕ, ◌<◌, ◌≤◌, MatchOption}
use Rattle.lsm_explore.specs.Paths.{IsOpen, turn_at}
use Rattle.lsm_explore.proofs.path.last_open.Given as goal

abbrev pub invariant-loop-i : goal.invariant-loop-i
invariant-loop-i l =
    MatchOption l.last
    ((k : ℕ) → l.fixed ≤ k → k < l.i → ¬ IsOpen (turn_at l.turns k))
    (λ at. (l.fixed ≤ at) × (at < l.i) × IsOpen (turn_at l.turns at) × ((k : ℕ) → at < k → k < l.i → ¬ IsOpen (turn_at l.turns k)))
