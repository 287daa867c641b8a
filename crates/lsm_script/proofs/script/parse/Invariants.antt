-- the events so far, before those of the lines that are left
use Rattle.std.proofs.Common.{◌≡◌, ◌+◌, ◌≤◌, map, length}
use Rattle.lsm_line.specs.Text.{lines_left}
use Rattle.lsm_world.specs.Events.{event_of}
use Rattle.lsm_script.specs.Script.{script, events_from}
use Rattle.lsm_line.proofs.BatchSteps.{after}
use Rattle.lsm_script.proofs.script.parse.Given as goal

abbrev pub invariant-loop-line : goal.invariant-loop-line
invariant-loop-line l = record {
  can_next : (goal.iterator-loop-line).can_next l.line-iterator;
  is_finite : (goal.iterator-loop-line).is_finite l.line-iterator;
  so_far : script l.fn.text ≡ after (map event_of l.events.items) (events_from (l.line_number + 1) (lines_left l.line-iterator.rest));
  count : l.line_number + length (lines_left l.line-iterator.rest) ≤ length l.fn.text + 1;
}
