use Rattle.std.proofs.Common.{◌≡◌, ◌++◌}
use Rattle.std.specs.List.{filter}
use Rattle.lsm_table.specs.Heads.{has_entry}
use Rattle.lsm_merge.specs.Walks.{cursor_lists}
use Rattle.lsm_merge.proofs.cursor_head.heads_of.Given as goal

abbrev pub invariant-loop-cursor : goal.invariant-loop-cursor
invariant-loop-cursor l = record {
  all : l.yielded ++ l.cursor-iterator.rest.items ≡ l.fn.cursors.items;
  so : cursor_lists l.heads.items ≡ filter has_entry l.yielded;
}
