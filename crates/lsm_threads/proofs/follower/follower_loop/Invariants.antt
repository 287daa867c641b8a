use Rattle.std.proofs.Common.{◌≤◌, ◌<◌}
use mathlib.Core.List.{IsPrefix}
use Rattle.lsm_threads.specs.Following.{IsShown}
use Rattle.lsm_threads.proofs.follower.follower_loop.Given as goal

abbrev pub invariant-loop : goal.invariant-loop
invariant-loop g l =
    IsShown l.follower.served l.writer
    × (l.follower.served.version.number < l.fn.goal)
    × (l.fn.follower.served.version.number ≤ l.follower.served.version.number)
    × IsPrefix l.fn.writer.taken l.writer.taken
