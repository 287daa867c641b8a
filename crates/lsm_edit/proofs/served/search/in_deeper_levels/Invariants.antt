use Rattle.lsm_edit.specs.Search.{UpperMiss}
use Rattle.lsm_edit.proofs.served.search.in_deeper_levels.Given as goal

abbrev pub invariant-loop-level : goal.invariant-loop-level
invariant-loop-level l = UpperMiss l.places l.key l.from l.level
