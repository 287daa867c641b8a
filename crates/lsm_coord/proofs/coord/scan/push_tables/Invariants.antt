use Rattle.std.proofs.Common.{◌≡◌, ◌++◌}
use Rattle.std.specs.List.{filter}
use Rattle.lsm_table.specs.Heads.{has_entry}
use Rattle.lsm_coord.specs.Inner.Sources.{source_lists}
use Rattle.lsm_coord.proofs.coord.scan.push_tables.Given as goal

abbrev pub invariant-loop-cursor : goal.invariant-loop-cursor
invariant-loop-cursor l = record {
  all : l.yielded ++ l.cursor-iterator.rest.items ≡ l.fn.tables.items;
  so : source_lists l.sources.items ≡ source_lists l.fn.sources.items ++ filter has_entry l.yielded;
}
