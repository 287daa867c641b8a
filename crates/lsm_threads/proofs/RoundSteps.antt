-- Rounds of a dispatcher, one after another.
use Rattle.std.proofs.Common.{◌≡◌, ℕ, ◌+◌, ◌<◌, arith, subst}
use Rattle.lsm_nodes.specs.declared.rounds.RoundEnd.{RoundEnd}
use Rattle.lsm_nodes.specs.declared.rounds.RoundEnd.TheVariants as end
use Rattle.lsm_nodes.specs.Tallies.{EndsRound, TallyValue}
use Rattle.lsm_threads.specs.Rounds.{InstallsEach, StopsEarly}

-- a round that installed its claim, after others that did
pub installs_then : (t u v : TallyValue) (made : ℕ) (last : RoundEnd) → InstallsEach t made u → EndsRound u v last → last ≡ end.Installed → InstallsEach t (made + 1) v
installs_then t u v made last a ends is =
    let b = subst (EndsRound u v) is ends in
    record { picked = omega (arith, a.picked, b.0); installed = omega (arith, a.installed, b.1) }

-- the last round
pub stops_after : (t u v : TallyValue) (made rounds : ℕ) (last : RoundEnd) → made < rounds → InstallsEach t made u → EndsRound u v last → StopsEarly t rounds v last
stops_after t u v made rounds last less a b = record { made = made; fewer = less; before = u; each = a; ends = b }
