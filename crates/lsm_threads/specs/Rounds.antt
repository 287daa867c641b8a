-- What the dispatchers of one store did (the store's own).
use Rattle.std.specs.Prelude.{◌≡◌, ℕ, ◌+◌, ◌<◌, Option, None, Some}
use Rattle.lsm_nodes.specs.declared.rounds.RoundEnd.{RoundEnd}
use Rattle.lsm_nodes.specs.Tallies.{EndsRound, TallyValue}

-- this many rounds, each of which settled one claim and installed it
pub record InstallsEach (t : TallyValue) (rounds : ℕ) (u : TallyValue) : Type 0 where
  pub picked : u.picked ≡ t.picked + rounds
  pub installed : u.installed ≡ t.installed + rounds

-- fewer rounds than these, each of which installed its claim, and one more, which ended so
pub record StopsEarly (t : TallyValue) (rounds : ℕ) (u : TallyValue) (last : RoundEnd) : Type 0 where
  pub made : ℕ
  pub fewer : made < rounds
  pub before : TallyValue
  pub each : InstallsEach t made before
  pub ends : EndsRound before u last

-- each of the rounds was made and installed its claim; or they stopped after this one
abbrev pub EndsRounds : TallyValue → ℕ → TallyValue → Option RoundEnd → Type 0
EndsRounds t rounds u None = InstallsEach t rounds u
EndsRounds t rounds u (Some last) = StopsEarly t rounds u last

-- a tally of one part, with one claim, which was installed
abbrev pub IsOneInstall : TallyValue → Type 0
IsOneInstall t = (t.parts ≡ 1) × (t.picked ≡ 1) × (t.installed ≡ 1)

-- two claims, which were installed
abbrev pub AreSettled : ℕ → ℕ → ℕ → ℕ → Type 0
AreSettled picked installed returned stale = (picked ≡ 2) × (installed ≡ 2) × (returned ≡ 0) × (stale ≡ 0)
