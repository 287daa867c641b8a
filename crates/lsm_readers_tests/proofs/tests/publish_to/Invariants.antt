use Rattle.std.proofs.Common.{◌≤◌}
use Rattle.lsm_readers.specs.Publications.{last_published}
use Rattle.lsm_readers_tests.proofs.tests.publish_to.Given as goal

abbrev pub invariant-loop : goal.invariant-loop
invariant-loop g l = (last_published l.writer.taken).version.number ≤ l.served.version.number
