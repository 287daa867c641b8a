use Rattle.std.proofs.Common.{◌≡◌, ◌+◌, ◌++◌, drop}
use Rattle.lsm_coord.specs.Contract.Installing.{records}
use Rattle.lsm_coord.proofs.coord.outputs.records_of.Given as goal

abbrev pub invariant-loop-place : goal.invariant-loop-place
invariant-loop-place l = l.files.items ++ records l.level (l.first + l.place) (drop l.place l.tables) ≡ records l.level l.first l.tables
