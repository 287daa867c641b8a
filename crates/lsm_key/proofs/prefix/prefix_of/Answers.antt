use Rattle.std.proofs.Common.{sym, ap, ◌∙◌}
use Rattle.std.specs.Ordering.{is_lt}
use Rattle.lsm_key.specs.Prefix.{leading}
use Rattle.lsm_key.proofs.PrefixOrder.{prefix_starts, prefix_least, prefix_greatest}
use Rattle.lsm_key.proofs.prefix.prefix_of.Goals as goal

pub returns-in-Some-clause-value : goal.returns-in-Some-clause-value
returns-in-Some-clause-value c = c.leading.ensures ∙ ap (leading 8) c.in-Some.ensures.cases.1 ∙ sym (prefix_starts c.args.front.now c.args.key.now c.in-Some.ensures.cases.0)

pub returns-in-None-clause-value : goal.returns-in-None-clause-value
returns-in-None-clause-value c = sym (prefix_least c.args.front.now c.args.key.now c.in-None.ensures.cases (ap is_lt (sym c.cmp.ensures) ∙ sym c.is_lt.ensures ∙ c.if-is_lt.true))

pub returns-in-None-2-clause-value : goal.returns-in-None-2-clause-value
returns-in-None-2-clause-value c = sym (prefix_greatest c.args.front.now c.args.key.now c.in-None.ensures.cases (ap is_lt (sym c.cmp.ensures) ∙ sym c.is_lt.ensures ∙ c.if-is_lt.false))
