use Rattle.std.proofs.Common.{take}
use Rattle.std.specs.List.{filter, flat_map}
use Rattle.std.specs.Option.{option_copied}
use Rattle.lsm_pick.specs.After.{level_candidates_in}
use Rattle.lsm_pick.specs.Due.{is_due, levels}
use Rattle.lsm_pick.specs.Outcome.{HasOutcome}
use Rattle.lsm_pick.proofs.rule.try_all.Given as goal

abbrev pub invariant-loop-level : goal.invariant-loop-level
invariant-loop-level l = HasOutcome l.served.version.files l.live (flat_map (level_candidates_in (option_copied l.pointers) l.served) (filter (is_due l.limits l.served.version.files) (take l.level levels))) l.outcome
