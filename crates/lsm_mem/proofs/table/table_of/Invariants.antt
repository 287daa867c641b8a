use Rattle.std.proofs.Common.{◌≡◌, ◌++◌}
use Rattle.lsm_mem.proofs.table.table_of.Given as goal

abbrev pub invariant-loop-entry : goal.invariant-loop-entry
invariant-loop-entry l = record {
  target : l.builder.target ≡ l.fn.target;
  so_far : l.builder.entries ++ l.entry-iterator ≡ l.fn.cursor;
}
