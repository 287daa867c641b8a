use Rattle.std.proofs.Common.{sym, ◌∙◌}
use Rattle.lsm_coord.proofs.ReplayedLogs.{early_is_bad, replayed}
use Rattle.lsm_coord.proofs.replay.replay.Goals as goal

pub returns-then-ends_below-clause-refused : goal.returns-then-ends_below-clause-refused
returns-then-ends_below-clause-refused c = early_is_bad c.args.flushed c.args.texts.now c.replay_each.new.replayed c.in_ok-replay_each.ensures.ok (sym c.ends_below.ensures ∙ c.if-ends_below.true)

pub returns-clause-ok : goal.returns-clause-ok
returns-clause-ok c = replayed c.args.flushed c.args.texts.now c.replay_each.new.replayed c.in_ok-replay_each.ensures.ok (sym c.ends_below.ensures ∙ c.if-ends_below.false)
