-- the events so far, each with its reply
use Rattle.std.proofs.Common.{◌≡◌, ◌+◌, ◌≤◌, All, length, take}
use Rattle.std.specs.List.{zip}
use Rattle.std.specs.Prelude.{sum_by, vec_len, vec_capacity}
use Rattle.lsm_world.specs.Schedules.{AskedAll, IsPlain, IsTraced, RunsTo, device_failures}
use Rattle.lsm_world.proofs.world.World.run.Given as goal

abbrev pub invariant-loop-event : goal.invariant-loop-event
invariant-loop-event g l = record {
  each : length l.replies.items ≡ length (take l.event-index l.events);
  asks : AskedAll l.fn.self.nodes (zip (take l.event-index l.events) l.replies.items) l.self.nodes;
  run : RunsTo l.fn.self.nodes (zip (take l.event-index l.events) l.replies.items) l.self.nodes;
  trace : IsTraced l.fn.self.trace (zip (take l.event-index l.events) l.replies.items) l.self.trace;
  plain : All IsPlain l.replies.items;
  counted : sum_by device_failures l.replies.items + l.fn.self.nodes.seat.failures ≤ l.self.nodes.seat.failures;
  count : vec_len l.replies ≡ l.event-index;
  room : length l.events ≤ vec_capacity l.replies;
}
