-- When a history is exactly what its callers recorded.
use Rattle.std.specs.Prelude.{◌≡◌, ℕ, ◌+◌, ◌<◌, List, [], ◌∷◌, length}
use Rattle.std.specs.List.Sorted.{IsPermutation}
use Rattle.lsm_key.specs.Sets.{IsIn}
use Rattle.lsm_nodes.specs.declared.shared.tally.Record.{Record}
use Rattle.lsm_nodes.specs.Histories.{WitnessedValue}
use Rattle.lsm_nodes.specs.Tallies.{all_records, record_at}

-- the records of a history whose first position is this one
abbrev pub records_from : ℕ → List WitnessedValue → List Record
records_from position [] = []
records_from position (w ∷ ws) = record_at position w.exchange ∷ records_from (position + 1) ws

-- positions rise from record to record, from above this one on
abbrev pub RisesAbove : ℕ → List Record → Type 0
RisesAbove position [] = Unit {0}
RisesAbove position (r ∷ rs) = (position < r.position) × RisesAbove r.position rs

-- in each of the lists
abbrev pub AllRise : List (List Record) → Type 0
AllRise [] = Unit {0}
AllRise (rs ∷ rss) = RisesAbove 0 rs × AllRise rss

-- the lists have the records of the history, each once, each list in the order of the history
pub record IsPartedInto (history : List WitnessedValue) (lists : List (List Record)) : Type 0 where
  pub rising : AllRise lists
  pub once : IsPermutation (records_from 1 history) (all_records lists)

-- The lists are not the records of some history that has as many calls. A contract that can't name the history says no more
pub record MissHistory (lists : List (List Record)) : Type 0 where
  pub history : List WitnessedValue
  pub as_many : length (all_records lists) ≡ length history
  pub missed : IsPartedInto history lists → ⊥

-- each of the first is one of the second
abbrev pub AreAmong : List Record → List Record → Type 0
AreAmong [] all = Unit {0}
AreAmong (r ∷ rs) all = IsIn r all × AreAmong rs all
