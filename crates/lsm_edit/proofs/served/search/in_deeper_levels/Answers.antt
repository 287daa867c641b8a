use Rattle.std.proofs.Common.{arith}
use Rattle.lsm_edit.proofs.CoveredFiles.{all_miss}
use Rattle.lsm_edit.proofs.served.search.in_deeper_levels.Goals as goal

pub returns-clause-none : goal.returns-clause-none
returns-clause-none c = all_miss c.args.places.now c.args.key.now c.args.from c.loop-level.level c.deepest_level-level-end.result c.deepest_level-level-end.ensures.deepest (omega arith) c.loop-level.invariant
