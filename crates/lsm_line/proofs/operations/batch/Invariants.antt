-- the operations so far, before those of the words that are left
use Rattle.std.proofs.Common.{◌≡◌}
use Rattle.lsm_line.specs.Text.{words}
use Rattle.lsm_line.specs.Commands.{operations}
use Rattle.lsm_line.proofs.BatchSteps.{after}
use Rattle.lsm_line.proofs.operations.batch.Given as goal

abbrev pub invariant-loop-name : goal.invariant-loop-name
invariant-loop-name l = operations (words l.fn.args.rest.now) ≡ after l.ops.items (operations (words l.args.rest.now))
