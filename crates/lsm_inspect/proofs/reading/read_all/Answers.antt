use Rattle.std.proofs.Common.{sym, ◌∙◌}
use Rattle.lsm_inspect.proofs.ReadLogs.{holds, is_over, is_short}
use Rattle.lsm_inspect.proofs.reading.read_all.Goals as goal

pub returns-then-ends_short-clause-refused : goal.returns-then-ends_short-clause-refused
returns-then-ends_short-clause-refused c =
    rw c.last_number.ensures (is_short c.args.flushed c.args.texts.now c.read_each.new.reading c.in_ok-read_each.ensures.ok (sym c.ends_short.ensures ∙ c.if-ends_short.true))

pub returns-then-is_too_heavy-clause-refused : goal.returns-then-is_too_heavy-clause-refused
returns-then-is_too_heavy-clause-refused c = is_over c.args.flushed c.args.texts.now c.read_each.new.reading c.in_ok-read_each.ensures.ok (sym c.is_too_heavy.ensures ∙ c.if-is_too_heavy.true)

pub returns-clause-ok : goal.returns-clause-ok
returns-clause-ok c = holds c.args.flushed c.args.texts.now c.read_each.new.reading c.in_ok-read_each.ensures.ok (sym c.ends_short.ensures ∙ c.if-ends_short.false) (sym c.is_too_heavy.ensures ∙ c.if-is_too_heavy.false)
