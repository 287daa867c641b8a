-- Schedules as turns (Godefroid 1997, VeriSoft: a state is reached again by its choices).
use Rattle.std.specs.Prelude.{ℕ, ◌+◌, ◌^◌, ◌<◌, ◌≤◌, List, length, slice_index_or}
use Rattle.lsm_explore.specs.declared.path.Turn.{Turn}

-- the turn has a choice after the one that it takes, of a count that is a u64
abbrev pub IsOpen : Turn → Type 0
IsOpen turn = (turn.taken + 1 < turn.of) × (turn.of < 2 ^ 64)

-- a turn with no choice
abbrev pub no_turn : Turn
no_turn = record { taken = 0; of = 0 }

-- the turn at a place, or one with no choice
abbrev pub turn_at : List Turn → ℕ → Turn
turn_at turns place = slice_index_or turns place no_turn

-- the same turn, with its next choice
abbrev pub next_turn : Turn → Turn
next_turn turn = record { taken = turn.taken + 1; of = turn.of }

-- of the turns from a place on, the last one that is open stands here
abbrev pub IsLastOpen : ℕ → List Turn → ℕ → Type 0
IsLastOpen fixed turns at =
    (fixed ≤ at)
    × (at < length turns)
    × IsOpen (turn_at turns at)
    × ((k : ℕ) → at < k → k < length turns → ¬ IsOpen (turn_at turns k))

-- none of the turns from a place on is open
abbrev pub AreClosed : ℕ → List Turn → Type 0
AreClosed fixed turns = (k : ℕ) → fixed ≤ k → k < length turns → ¬ IsOpen (turn_at turns k)
