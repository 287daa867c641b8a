use Rattle.std.proofs.Common.{◌≡◌, ◌+◌}
use Rattle.lsm_store.specs.Store.{Keeps, LeavesMemtable, LetsOthersGo}
use Rattle.lsm_store.proofs.store.Store.compact.Given as goal

-- so many compactions were made, and they kept what the store holds; the tables of all versions but the last were let go
abbrev pub invariant-loop-round : goal.invariant-loop-round
invariant-loop-round g l =
    Keeps l.fn.self l.self × LeavesMemtable l.fn.self l.self
    × (l.self.served.version.number ≡ l.fn.self.served.version.number + l._round) × LetsOthersGo l.fn.self l.self
