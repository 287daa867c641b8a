-- One step after another: every schedule of the nodes is such a list (RocksDB wiki: remote compaction, secondary instances).
use Rattle.std.specs.Prelude.{◌≡◌, List, [], ◌∷◌}
use Rattle.lsm_coord.specs.Model.State.{State, first_state}
use Rattle.lsm_coord.specs.Model.Event.{Event, Reply}
use Rattle.lsm_coord.specs.Model.Step.{Step}

-- the events, each with its reply, lead from the one state to the other
abbrev pub Run : State → List (Event × Reply) → State → Type 0
Run s [] new = new ≡ s
Run s ((event, reply) ∷ steps) new = (next : State) × Step s event reply next × Run next steps new

-- the same of a new store
abbrev pub RunOfNew : List (Event × Reply) → Type 0
RunOfNew steps = (last : State) × Run first_state steps last
