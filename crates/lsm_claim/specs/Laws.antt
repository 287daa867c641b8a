-- What the tests for conflicts mean (interval arithmetic: two closed intervals that meet have a common point).
use Rattle.std.specs.Prelude.{◌≡◌, ◌↔◌, ℕ, true, List}
use Rattle.lsm_claim.specs.declared.hull.Hull.{Hull}
use Rattle.lsm_claim.specs.declared.job.Want.{Want}
use Rattle.lsm_claim.specs.Levels.{uses_level, shares_level}
use Rattle.lsm_claim.specs.Conflicts.{covers, hulls_meet, conflicts}

-- hulls meet exactly when some key is in both
abbrev pub HullsMeetWhereTheyShareAKey : Type 0
HullsMeetWhereTheyShareAKey = (h g : Hull) → (hulls_meet h g ≡ true) ↔ ((key : List ℕ) × (covers h key ≡ true) × (covers g key ≡ true))

-- jobs share a level exactly when both use one
abbrev pub JobsShareTheLevelsThatBothUse : Type 0
JobsShareTheLevelsThatBothUse = (a b : ℕ) → (shares_level a b ≡ true) ↔ ((level : ℕ) × (uses_level a level ≡ true) × (uses_level b level ≡ true))

-- a job conflicts with another exactly if that one conflicts with it
abbrev pub ConflictsGoBothWays : Type 0
ConflictsGoBothWays = (w v : Want) → conflicts w v ≡ conflicts v w
