use Rattle.std.proofs.Common.{◌≡◌, ◌++◌}
use Rattle.std.specs.List.{filter}
use Rattle.lsm_key.specs.Order.{is_between}
use Rattle.lsm_key.proofs.AscendingEntries.{Falls}
use Rattle.lsm_mem.proofs.EntriesFrom.{is_before}
use Rattle.lsm_mem.proofs.memtable.Memtable.range.Given as goal

abbrev pub invariant-loop-entry : goal.invariant-loop-entry
invariant-loop-entry l = record {
  so_far : l.copies.items ++ filter (is_before l.fn.hi) l.entry-iterator ≡ filter (is_between l.fn.lo l.fn.hi) l.self;
  falls : Falls l.entry-iterator;
}
