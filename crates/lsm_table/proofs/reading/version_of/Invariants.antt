use Rattle.std.proofs.Common.{◌≡◌}
use Rattle.lsm_table.specs.Tables.{version_of_entries}
use Rattle.lsm_table.proofs.reading.version_of.Given as goal

-- those that were passed are short, so that all need what the rest needs
abbrev pub invariant-loop-entry : goal.invariant-loop-entry
invariant-loop-entry l = version_of_entries l.entry-iterator ≡ version_of_entries l.fn.block
