use Rattle.std.proofs.Common.{◌≡◌, drop}
use Rattle.lsm_edit.specs.Served.{table_at}
use Rattle.lsm_edit.proofs.served.Served.table.Given as goal

abbrev pub invariant-loop-placed : goal.invariant-loop-placed
invariant-loop-placed l = table_at (drop l.placed-index l.placed-items) l.number ≡ table_at l.self.places l.number
