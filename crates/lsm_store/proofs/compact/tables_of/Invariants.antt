use Rattle.std.proofs.Common.{◌≡◌, ◌++◌, drop}
use Rattle.lsm_store.specs.Compacting.{tables_at}
use Rattle.lsm_store.proofs.compact.tables_of.Given as goal

-- the tables so far, before those of the files that are left
abbrev pub invariant-loop-file : goal.invariant-loop-file
invariant-loop-file g l = l.tables.items ++ tables_at l.coord.served.places (drop l.file-index l.files) ≡ tables_at l.coord.served.places l.files
