use Rattle.std.proofs.Common.{take}
use Rattle.lsm_pick.specs.Rule.{level_candidates}
use Rattle.lsm_pick.specs.Outcome.{HasOutcome}
use Rattle.lsm_pick.proofs.rule.try_level.Given as goal

abbrev pub invariant-loop-file : goal.invariant-loop-file
invariant-loop-file l = HasOutcome l.served.version.files l.live (level_candidates (take l.file-index l.file-items) l.level) l.outcome
