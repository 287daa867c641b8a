use Rattle.std.proofs.Common.{◌≡◌, ◌+◌, length, sum_by}
use Rattle.std.specs.Prelude.{max}
use Rattle.lsm_key.specs.Limits.{entry_weight}
use Rattle.lsm_mem.specs.Memtable.{last_sequence}
use Rattle.lsm_mem.proofs.totals.totals_of.Given as goal

abbrev pub invariant-loop-entry : goal.invariant-loop-entry
invariant-loop-entry l = record {
  weighed : l.weight + sum_by entry_weight l.entry-iterator ≡ sum_by entry_weight l.fn.cursor;
  counted : l.count + length l.entry-iterator ≡ length l.fn.cursor;
  newest : max l.last (last_sequence l.entry-iterator) ≡ last_sequence l.fn.cursor;
}
