-- Which levels jobs use (LevelDB, implementation notes: compactions).
use Rattle.std.specs.Prelude.{ℕ, ◌+◌, Bool, ◌||◌, nat_eq}

-- a job of a level merges files of that level and of the next one
abbrev pub uses_level : ℕ → ℕ → Bool
uses_level job level = nat_eq level job || nat_eq level (job + 1)

-- jobs of these levels share one
abbrev pub shares_level : ℕ → ℕ → Bool
shares_level a b = uses_level a b || uses_level b a
