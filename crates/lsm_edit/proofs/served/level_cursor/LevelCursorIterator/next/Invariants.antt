use Rattle.std.proofs.Common.{◌≡◌, ◌++◌, length}
use Rattle.lsm_key.specs.Places.{all_entries}
use Rattle.lsm_edit.specs.Served.{tables_of}
use Rattle.lsm_edit.proofs.served.level_cursor.LevelCursorIterator.next.Given as goal

abbrev pub invariant-loop-found : goal.invariant-loop-found
invariant-loop-found l = l.self-inside.current ++ all_entries (tables_of l.self-inside.later.now) ≡ l.fn.self

abbrev pub decreases-loop-found : goal.decreases-loop-found
decreases-loop-found l = length l.self-inside.later.now
