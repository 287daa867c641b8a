use Rattle.std.proofs.Common.{arith}
use Rattle.lsm_table.proofs.MeasuredTables.{measured_room, measured_full}
use Rattle.lsm_table.proofs.measuring.Measure.grown.Goals as goal

pub returns-then-self-target-clause-measured : goal.returns-then-self-target-clause-measured
returns-then-self-target-clause-measured c = λ es e keyed weighed is.
    measured_room c.args.target es e c.args.self.now c.args.len c.args.key c.version_with-version.result weighed keyed c.version_with-version.ensures is c.if-self-target.true

pub returns-else-self-target-clause-measured : goal.returns-else-self-target-clause-measured
returns-else-self-target-clause-measured c = λ es e keyed weighed is.
    measured_full c.args.target es e c.args.self.now c.args.len c.args.key c.version_with-version.result weighed keyed c.version_with-version.ensures is c.requires.target (omega (arith, c.if-self-target.false))
